-- Facts that are computed over the whole symbol table.
use Rattle.std.proofs.Common.{◌≡◌, ℕ, ◌&&◌, Bool, true, false, leb, ltb, List, [], ◌∷◌, length, get_or, map, refl}
use Rattle.std.specs.Fmt.{digits}
use Rattle.std.specs.List.{list_all}
use Rattle.key_syms.specs.Act.{act, is_action}
use Rattle.key_syms.specs.Names.{same_act}
use Rattle.key_syms.specs.Packed.{ActsArePacked, NamesArePacked}
use Rattle.key_syms.specs.Symbols.{Symbol, symbols}
use Rattle.key_syms.specs.declared.index.TheConstants.{KINDS, LENGTHS, ORDER, STARTS, VALUES}
use Rattle.key_syms.specs.declared.table.TheConstants.{NAMES, NAME_COUNT}
use Rattle.key_syms.proofs.Ranks.{lie_at, rises, counts_among}

unfoldable pub names : List (List ℕ)
names = map (λ s. s.name) symbols

pub length-symbols : length symbols ≡ NAME_COUNT
unfolding symbols
length-symbols = refl

pub length-names : length names ≡ NAME_COUNT
unfolding symbols names
length-names = refl

pub names_lie : lie_at names STARTS LENGTHS 0 NAMES ≡ true
unfolding symbols names digits
names_lie = refl

pub names_rise : rises (map (λ p. get_or names p []) ORDER) ≡ true
unfolding symbols names digits
names_rise = refl

pub ranks_within : list_all (λ p. ltb p NAME_COUNT) ORDER ≡ true
ranks_within = refl

pub ranks_all : counts_among 0 NAME_COUNT ORDER ≡ true
ranks_all = refl

-- the symbols have these kinds and values, which are actions, and short names of ASCII
abbrev pub acts_are : List Symbol → List ℕ → List ℕ → Bool
acts_are [] kinds values = true
acts_are (s ∷ rows) [] values = false
acts_are (s ∷ rows) (k ∷ kinds) [] = false
acts_are (s ∷ rows) (k ∷ kinds) (v ∷ values) =
    same_act s.act (act k v) && (is_action k v && (leb (length s.name) 32
    && (list_all (λ b. ltb b 128) s.name && acts_are rows kinds values)))

pub symbols_acts : acts_are symbols KINDS VALUES ≡ true
unfolding symbols digits
symbols_acts = refl

pub names_packed : NamesArePacked
unfolding symbols digits
names_packed = refl

pub acts_packed : ActsArePacked
unfolding symbols digits
acts_packed = (refl, refl)
