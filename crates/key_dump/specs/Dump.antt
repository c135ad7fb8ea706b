-- Key tables written as a keymap text, as rows of words with one blank between (dumpkeys(1)).
use Rattle.std.specs.Prelude.{ℕ, suc, ◌+◌, ◌/◌, ◌%◌, Bool, ◌==◌, ◌&&◌, not, nat_le, cond, Option, Some, None, List, [], ◌∷◌, ◌++◌, codes, decimal, filter, map}
use Rattle.std.specs.List.{flat_map, join_with_byte, range_with_len}
use Rattle.key_syms.specs.Act.{Act, act}
use Rattle.key_syms.specs.Names.{hex4, name_text}
use Rattle.key_syms.specs.Kinds.{FUNCTION, HOLE}
use Rattle.key_syms.specs.declared.pair.Pair.{Pair}
use Rattle.key_tables.specs.Tables.{Tables, exists_in}

-- a modifier: its weight and its word
pub record Modifier : Type 0 where
  pub weight : ℕ
  pub word : List ℕ

abbrev pub modifier : ℕ → List ℕ → Modifier
modifier weight word = record { weight = weight; word = word }

-- the modifiers, by their weights (keymaps(5))
abbrev pub modifiers : List Modifier
modifiers =
    modifier 1 (codes "shift") ∷ modifier 2 (codes "altgr") ∷ modifier 4 (codes "control")
    ∷ modifier 8 (codes "alt") ∷ modifier 16 (codes "shiftl") ∷ modifier 32 (codes "shiftr")
    ∷ modifier 64 (codes "ctrll") ∷ modifier 128 (codes "ctrlr") ∷ []

-- the words of the modifiers whose weights are in a table's number, or `plain`
abbrev pub modifier_words : ℕ → List (List ℕ)
modifier_words t =
    cond (t == 0) (codes "plain" ∷ [])
    (map (λ m. m.word) (filter (λ m. t / m.weight % 2 == 1) modifiers))

-- the tables that exist, rising
unfoldable pub table_numbers : Tables → List ℕ
table_numbers t = filter (exists_in t) (range_with_len 0 256)

-- `keymaps` and the tables, joined by commas
abbrev pub keymaps_words : Tables → List (List ℕ)
keymaps_words t = codes "keymaps" ∷ join_with_byte 0x2C (map decimal (table_numbers t)) ∷ []

-- the modifiers' words and `keycode C = NAME`
abbrev pub entry_words : ℕ → ℕ → Act → List (List ℕ)
entry_words t c a =
    modifier_words t ++ codes "keycode" ∷ decimal c ∷ codes "=" ∷ name_text a ∷ []

-- a byte that stands for itself between quotes
abbrev pub is_plain : ℕ → Bool
is_plain b = nat_le 0x20 b && nat_le b 0x7E && not (b == 0x22) && not (b == 0x5C)

-- a backslash and three octal digits
abbrev pub octal_escape : ℕ → List ℕ
octal_escape b = 0x5C ∷ (0x30 + b / 64) ∷ (0x30 + b / 8 % 8) ∷ (0x30 + b % 8) ∷ []

-- a byte between quotes
abbrev pub escape_of : ℕ → List ℕ
escape_of b = cond (is_plain b) (b ∷ []) (octal_escape b)

-- a text between double quotes
abbrev pub quoted_text : List ℕ → List ℕ
quoted_text text = codes "\"" ++ (flat_map escape_of text ++ codes "\"")

-- `string NAME = "TEXT"`
abbrev pub string_words : ℕ → List ℕ → List (List ℕ)
string_words i text =
    codes "string" ∷ name_text (act FUNCTION i) ∷ codes "=" ∷ quoted_text text ∷ []

-- a character by its code point
abbrev pub code_point : ℕ → List ℕ
code_point c = codes "U+" ++ hex4 c

-- `compose A B to C`
abbrev pub pair_words : Pair → List (List ℕ)
pair_words pair =
    codes "compose" ∷ code_point pair.accent ∷ code_point pair.base ∷ codes "to"
    ∷ code_point pair.result ∷ []

-- the rows of the items, each by its index
abbrev pub rows_from : {X Row : Type 0} → (ℕ → X → List Row) → ℕ → List X → List Row
rows_from rows i [] = []
rows_from rows i (x ∷ xs) = rows i x ++ rows_from rows (suc i) xs

-- the row of an entry that isn't a hole
abbrev pub entry_rows : ℕ → ℕ → Act → List (List (List ℕ))
entry_rows t c a = cond (a.kind == HOLE) [] (entry_words t c a ∷ [])

-- the rows of a table that exists, by keycode
abbrev pub table_rows : ℕ → Option (List Act) → List (List (List ℕ))
table_rows t None = []
table_rows t (Some map) = rows_from (entry_rows t) 0 map

-- the row of a string that isn't empty
abbrev pub string_rows : ℕ → List ℕ → List (List (List ℕ))
string_rows i [] = []
string_rows i (b ∷ bs) = string_words i (b ∷ bs) ∷ []

-- the rows of a dump
unfoldable pub dump_rows : Tables → List (List (List ℕ))
dump_rows t =
    keymaps_words t
    ∷ (rows_from table_rows 0 t.maps
    ++ (rows_from string_rows 0 t.funcs ++ map pair_words t.pairs))

-- a row as text
abbrev pub row_text : List (List ℕ) → List ℕ
row_text words = join_with_byte 0x20 words ++ codes "\n"

-- the text of a dump
abbrev pub dump_of : Tables → List ℕ
dump_of t = flat_map row_text (dump_rows t)
