-- The lines of a keymap, by their first words (keymaps(5)).
use Rattle.std.specs.Prelude.{ℕ, zero, suc, ◌+◌, Bool, false, ◌==◌, ◌&&◌, cond, not, nat_le, bit_or, Option, Some, None, Result, Ok, Err, List, [], ◌∷◌, length, codes, take, drop, map}
use Rattle.std.specs.List.{list_any, prefix_len, range_with_len}
use Rattle.std.specs.Result.{result_err}
use Rattle.key_syms.specs.Numbers.{number_of}
use Rattle.key_syms.specs.declared.pair.Pair.{Pair}
use Rattle.key_text.specs.Fault.{fault, ◌>>=◌}
use Rattle.key_text.specs.Fields.{character_at, code_at, end_of_line, keyword_at, number_in_range, string_at, symbol_at, symbols_at, function_at, text_at, with_actions}
use Rattle.key_text.specs.KeymapLine.{LineMeaning, keymaps, keys, one, string, compose, alt_is_meta, usual_strings, usual_pairs}
use Rattle.key_text.specs.Words.{bytes, is_word, next, place_of_word, whole, word_at}
use Rattle.key_text.specs.declared.fault.KeyFault.{KeyFault}
use Rattle.key_text.specs.FaultKinds.{OUT_OF_RANGE, UNKNOWN_WORD}
use Rattle.key_text.specs.declared.keymaps_line.TableRange.{TableRange}
use Rattle.key_text.specs.declared.placed.Place.{Place}
use Rattle.key_text.specs.declared.placed.Placed.{Placed}

-- the statement of a row: nothing, a line, or an include: the name of the text, the place of the quoted name,
-- and the fault of the words after the name
pub data StatementView : Type 0 where
  nothing : StatementView
  means : LineMeaning → StatementView
  includes : List ℕ → Place → Option KeyFault → StatementView

abbrev pub comma : ℕ
comma = 0x2C

abbrev pub dash : ℕ
dash = 0x2D

-- the number of bytes before the first byte of this kind
abbrev pub before : ℕ → List ℕ → ℕ
before mark text = prefix_len (λ b. not (b == mark)) text

-- a byte before the first piece
abbrev pub with_byte : ℕ → List (List ℕ) → List (List ℕ)
with_byte b [] = (b ∷ []) ∷ []
with_byte b (piece ∷ pieces) = (b ∷ piece) ∷ pieces

-- the pieces of a text between commas
abbrev pub pieces : List ℕ → List (List ℕ)
pieces [] = [] ∷ []
pieces (b ∷ bs) = cond (b == comma) ([] ∷ pieces bs) (with_byte b (pieces bs))

-- the number of a table
abbrev pub table_of : List Placed → List ℕ → Result ℕ KeyFault
table_of word piece = number_in_range 0 255 word (number_of piece)

-- a range in order
abbrev pub in_order : List Placed → ℕ → ℕ → Result TableRange KeyFault
in_order word low high =
    cond (nat_le low high) (Ok (record { low = low; high = high }))
    (Err (fault OUT_OF_RANGE (place_of_word word)))

-- a range `N` or `N-N`, of a piece with this many bytes before its first dash
abbrev pub range_by : List Placed → List ℕ → ℕ → Result TableRange KeyFault
range_by word piece n =
    table_of word (take n piece) >>= λ low.
    cond (n == length piece) (Ok (record { low = low; high = low }))
    (table_of word (drop (n + 1) piece) >>= λ high. in_order word low high)

unfoldable pub range_of : List Placed → List ℕ → Result TableRange KeyFault
range_of word piece = range_by word piece (before dash piece)

-- the ranges of these pieces
abbrev pub ranges_of : List Placed → List (List ℕ) → Result (List TableRange) KeyFault
ranges_of word [] = Ok []
ranges_of word (piece ∷ pieces) =
    range_of word piece >>= λ range. ranges_of word pieces >>= λ ranges. Ok (range ∷ ranges)

-- the table lies in the range
abbrev pub covers : ℕ → TableRange → Bool
covers t range = nat_le range.low t && nat_le t range.high

-- for each table whether a range has it
unfoldable pub table_marks : List TableRange → List Bool
table_marks ranges = map (λ t. list_any (covers t) ranges) (range_with_len 0 256)

-- the tables of a word of ranges
abbrev pub tables_in : List Placed → List ℕ → Result (List Bool) KeyFault
tables_in word text = ranges_of word (pieces text) >>= λ ranges. Ok (table_marks ranges)

-- `keymaps` and ranges
unfoldable pub keymaps_line : Place → List Placed → Result StatementView KeyFault
keymaps_line end items = do
  w ← next UNKNOWN_WORD end items
  tables ← tables_in w.0 (bytes w.0)
  done ← end_of_line w.1
  Ok (means (keymaps tables))

-- `keycode N =` and symbols
unfoldable pub keys_line : Place → List Placed → Result StatementView KeyFault
keys_line end items = do
  code ← code_at end items
  rest ← keyword_at (codes "=") end code.1
  first ← symbol_at end rest
  actions ← with_actions (first.0 ∷ []) (symbols_at (length first.1) first.1)
  Ok (means (keys code.0 actions))

-- the weight of a modifier word: the table that it alone names
unfoldable pub weight_of : List Placed → Option ℕ
weight_of word =
    cond (is_word (codes "plain") word) (Some 0)
    (cond (is_word (codes "shift") word) (Some 1)
    (cond (is_word (codes "altgr") word) (Some 2)
    (cond (is_word (codes "control") word) (Some 4)
    (cond (is_word (codes "alt") word) (Some 8)
    (cond (is_word (codes "shiftl") word) (Some 16)
    (cond (is_word (codes "shiftr") word) (Some 32)
    (cond (is_word (codes "ctrll") word) (Some 64)
    (cond (is_word (codes "ctrlr") word) (Some 128) None))))))))

-- `keycode` after modifier words of this table, and the rest of the row
abbrev pub keycode_by : ℕ → List Placed × List Placed → Result (ℕ × List Placed) KeyFault
keycode_by table w =
    cond (is_word (codes "keycode") w.0) (Ok (table, w.1)) (Err (fault UNKNOWN_WORD (place_of_word w.0)))

-- modifier words up to `keycode`, n words at most: the union of the weights, and the rest of the row
abbrev pub modifiers_by : (ℕ → List Placed → Result (ℕ × List Placed) KeyFault) → ℕ → List Placed × List Placed → Option ℕ → Result (ℕ × List Placed) KeyFault
modifiers_by rest table w (Some weight) = rest (bit_or table weight) w.1
modifiers_by rest table w None = keycode_by table w

abbrev pub modifiers_at : ℕ → ℕ → Place → List Placed → Result (ℕ × List Placed) KeyFault
modifiers_at zero table end items = Err (fault UNKNOWN_WORD end)
modifiers_at (suc n) table end items =
    next UNKNOWN_WORD end items >>= λ w.
    modifiers_by (λ more left. modifiers_at n more end left) table w (weight_of w.0)

-- modifier words, of which the first weighs this, before `keycode N =` and one symbol
unfoldable pub modified_line : ℕ → Place → List Placed → Result StatementView KeyFault
modified_line weight end items = do
  table ← modifiers_at (length items + 1) weight end items
  code ← code_at end table.1
  rest ← keyword_at (codes "=") end code.1
  only ← symbol_at end rest
  done ← end_of_line only.1
  Ok (means (one table.0 code.0 only.0))

-- `string NAME = "text"`
unfoldable pub string_line : Place → List Placed → Result StatementView KeyFault
string_line end items = do
  func ← function_at end items
  rest ← keyword_at (codes "=") end func.1
  bytes ← string_at end rest
  done ← end_of_line bytes.1
  Ok (means (string func.0 bytes.0))

-- `A B to C`
abbrev pub pair_of : ℕ → ℕ → ℕ → Pair
pair_of a b c = record { accent = a; base = b; result = c }

unfoldable pub pair_line : Place → List Placed → Result StatementView KeyFault
pair_line end items = do
  accent ← character_at end items
  base ← character_at end accent.1
  rest ← keyword_at (codes "to") end base.1
  result ← character_at end rest
  done ← end_of_line result.1
  Ok (means (compose (pair_of accent.0 base.0 result.0)))

-- the next word is this one
abbrev pub is_next_by : List ℕ → Option (List Placed × List Placed) → Bool
is_next_by text None = false
is_next_by text (Some w) = is_word text w.0

unfoldable pub is_next : List ℕ → List Placed → Bool
is_next text items = is_next_by text (word_at items)

-- the rest of the row after `for "name"`, if the row begins with it
unfoldable pub after_charset : Place → List Placed → Result (List Placed) KeyFault
after_charset end items =
    cond (is_next (codes "for") items)
    (keyword_at (codes "for") end items >>= λ rest. text_at end rest >>= λ name. Ok name.2)
    (Ok items)

-- `as usual`, with `for "name"` allowed
unfoldable pub usual_pairs_line : Place → List Placed → Result StatementView KeyFault
usual_pairs_line end items = do
  rest ← keyword_at (codes "as") end items
  rest ← keyword_at (codes "usual") end rest
  rest ← after_charset end rest
  done ← end_of_line rest
  Ok (means usual_pairs)

unfoldable pub compose_line : Place → List Placed → Result StatementView KeyFault
compose_line end items =
    cond (is_next (codes "as") items) (usual_pairs_line end items) (pair_line end items)

-- `strings as usual`
unfoldable pub usual_strings_line : Place → List Placed → Result StatementView KeyFault
usual_strings_line end items = do
  rest ← keyword_at (codes "as") end items
  rest ← keyword_at (codes "usual") end rest
  done ← end_of_line rest
  Ok (means usual_strings)

unfoldable pub alt_is_meta_line : List Placed → Result StatementView KeyFault
alt_is_meta_line items = end_of_line items >>= λ done. Ok (means alt_is_meta)

-- `include "name"`
unfoldable pub include_line : Place → List Placed → Result StatementView KeyFault
include_line end items = do
  name ← text_at end items
  Ok (includes name.0 name.1 (result_err (end_of_line name.2)))

-- `charset "name"`, which has no effect
unfoldable pub charset_line : Place → List Placed → Result StatementView KeyFault
charset_line end items = do
  name ← text_at end items
  done ← end_of_line name.2
  Ok nothing

-- a line that begins with modifier words, or with no word that is known
abbrev pub modified_by : Place → List Placed × List Placed → Option ℕ → Result StatementView KeyFault
modified_by end w None = Err (fault UNKNOWN_WORD (place_of_word w.0))
modified_by end w (Some weight) = modified_line weight end w.1

-- a line by its first word
unfoldable pub line_by : Place → List Placed × List Placed → Result StatementView KeyFault
line_by end w =
    cond (is_word (codes "keymaps") w.0) (keymaps_line end w.1)
    (cond (is_word (codes "keycode") w.0) (keys_line end w.1)
    (cond (is_word (codes "string") w.0) (string_line end w.1)
    (cond (is_word (codes "compose") w.0) (compose_line end w.1)
    (cond (is_word (codes "include") w.0) (include_line end w.1)
    (cond (is_word (codes "charset") w.0) (charset_line end w.1)
    (cond (is_word (codes "alt_is_meta") w.0) (alt_is_meta_line w.1)
    (cond (is_word (codes "strings") w.0) (usual_strings_line end w.1)
    (modified_by end w (weight_of w.0)))))))))

-- the statement of a row with this first word
unfoldable pub statement_from : Place → List Placed × List Placed → Result StatementView KeyFault
statement_from end word = whole word >>= λ w. line_by end w
