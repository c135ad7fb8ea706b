-- The tables that the lines of a keymap declare.
use Rattle.std.specs.Prelude.{◌≡◌, ℕ, zero, suc, ◌<◌, Bool, true, false, ◌==◌, ◌||◌, cond, nat_le, List, [], ◌∷◌, ◌++◌, length, slice_index_or}
use Rattle.std.specs.List.{list_any}
use Rattle.key_text.specs.KeymapLine.{LineMeaning, KeymapLine, keymaps, keys, one, string, compose, alt_is_meta, usual_strings, usual_pairs}

-- a line `keymaps`
abbrev pub is_keymaps : LineMeaning → Bool
is_keymaps (keymaps tables) = true
is_keymaps (keys code actions) = false
is_keymaps (one table code action) = false
is_keymaps (string func bytes) = false
is_keymaps (compose pair) = false
is_keymaps alt_is_meta = false
is_keymaps usual_strings = false
is_keymaps usual_pairs = false

-- a line `keymaps` that has the table
abbrev pub names_table : ℕ → LineMeaning → Bool
names_table t (keymaps tables) = slice_index_or tables t false
names_table t (keys code actions) = false
names_table t (one table code action) = false
names_table t (string func bytes) = false
names_table t (compose pair) = false
names_table t alt_is_meta = false
names_table t usual_strings = false
names_table t usual_pairs = false

-- a line with modifier words for the table
abbrev pub modifies_table : ℕ → LineMeaning → Bool
modifies_table t (keymaps tables) = false
modifies_table t (keys code actions) = false
modifies_table t (one table code action) = t == table
modifies_table t (string func bytes) = false
modifies_table t (compose pair) = false
modifies_table t alt_is_meta = false
modifies_table t usual_strings = false
modifies_table t usual_pairs = false

-- the tables without a `keymaps` line: 0-2,4-5,8,12
abbrev pub is_usual_table : ℕ → Bool
is_usual_table t = nat_le t 2 || t == 4 || t == 5 || t == 8 || t == 12

-- the table is in the union: one of the `keymaps` lines has it, wherever the line stands
unfoldable pub in_union : List KeymapLine → ℕ → Bool
in_union lines t =
    cond (list_any (λ l. is_keymaps l.meaning) lines)
    (list_any (λ l. names_table t l.meaning) lines) (is_usual_table t)

-- the numbers below n that pass, in rising order
unfoldable pub passing_below : (ℕ → Bool) → ℕ → List ℕ
passing_below test zero = []
passing_below test (suc n) = passing_below test n ++ cond (test n) (n ∷ []) []

-- the tables of the union, in rising order
unfoldable pub union_of : List KeymapLine → List ℕ
union_of lines = passing_below (in_union lines) 256

-- the table is declared: it is in the union, or a line with modifier words is for it
unfoldable pub is_declared : List KeymapLine → ℕ → Bool
is_declared lines t = in_union lines t || list_any (λ l. modifies_table t l.meaning) lines

-- the list has for each table whether it passes the test
pub record IsSetOf (marks : List Bool) (test : ℕ → Bool) : Type 0 where
  pub full : length marks ≡ 256
  pub each : (t : ℕ) → t < 256 → slice_index_or marks t false ≡ test t
