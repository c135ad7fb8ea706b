-- The result of a call that sets entries or strings.
use Rattle.std.specs.Prelude.{◌≡◌, ℕ, Option, unwrap_or, List}
use Rattle.std.specs.Option.{option_map}
use Rattle.key_syms.specs.Act.{Act}
use Rattle.key_tables.specs.Tables.{Tables, entry_of, func_of}

-- the entries that are given are set, in tables that exist; all else stays
pub record Puts (given : ℕ → ℕ → Option Act) (old new : Tables) : Type 0 where
  pub entries : (t c : ℕ) → entry_of new t c ≡ option_map (λ a. unwrap_or (given t c) a) (entry_of old t c)
  pub funcs : new.funcs ≡ old.funcs
  pub pairs : new.pairs ≡ old.pairs

-- the strings that are given are set; all else stays
pub record PutsTexts (given : ℕ → Option (List ℕ)) (old new : Tables) : Type 0 where
  pub texts : (i : ℕ) → func_of new i ≡ unwrap_or (given i) (func_of old i)
  pub maps : new.maps ≡ old.maps
  pub pairs : new.pairs ≡ old.pairs
