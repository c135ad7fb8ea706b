-- The laws of the symbol table: its two directions agree.
use Rattle.std.specs.Prelude.{◌≡◌, ℕ, Some, ◌++◌, codes, IsTrue}
use Rattle.key_syms.specs.Act.{Act, act, is_action, is_character}
use Rattle.key_syms.specs.Names.{hex4, name_text, symbol}
use Rattle.key_syms.specs.Kinds.{CHARACTER}

-- the name of an action stands for that action
abbrev pub NamesAreTheirOwn : Type 0
NamesAreTheirOwn = (a : Act) → IsTrue (is_action a.kind a.value) → symbol (name_text a) ≡ Some a

-- a code point stands for its character
abbrev pub CodePointsAreTheirOwn : Type 0
CodePointsAreTheirOwn =
    (n : ℕ) → IsTrue (is_character n) → symbol (codes "U+" ++ hex4 n) ≡ Some (act CHARACTER n)
