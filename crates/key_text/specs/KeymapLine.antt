-- The content of a line of a keymap.
use Rattle.std.specs.Prelude.{ℕ, Bool, ◌&&◌, nat_le, true, List, length}
use Rattle.key_syms.specs.Act.{Act, is_character}
use Rattle.key_syms.specs.declared.pair.Pair.{Pair}
use Rattle.key_text.specs.Tables.{is_table_set}

-- the content: the tables that exist; the actions of a code in the tables in order; the one action of a code
-- in one table; a string; a pair; and the lines of one meaning
pub data LineMeaning : Type 0 where
  keymaps : List Bool → LineMeaning
  keys : ℕ → List Act → LineMeaning
  one : ℕ → ℕ → Act → LineMeaning
  string : ℕ → List ℕ → LineMeaning
  compose : Pair → LineMeaning
  alt_is_meta : LineMeaning
  usual_strings : LineMeaning
  usual_pairs : LineMeaning

-- a line: its content, and the place of its first word
pub record KeymapLine : Type 0 where
  pub meaning : LineMeaning
  pub line : ℕ
  pub column : ℕ

-- a pair of characters
abbrev pub is_real : Pair → Bool
is_real pair =
    is_character pair.accent && is_character pair.base && is_character pair.result

-- the content is fit: there is a table, a code isn't 0, a string has at most 255 bytes, and a pair is of
-- characters
abbrev pub is_fit : LineMeaning → Bool
is_fit (keymaps tables) = is_table_set tables
is_fit (keys code actions) = nat_le 1 code
is_fit (one table code action) = nat_le 1 code
is_fit (string func bytes) = nat_le (length bytes) 255
is_fit (compose pair) = is_real pair
is_fit alt_is_meta = true
is_fit usual_strings = true
is_fit usual_pairs = true
