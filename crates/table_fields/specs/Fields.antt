-- The fields of a TOML table, each with its kind and its range. This project's own.
use Rattle.std.specs.Prelude.{ℕ, ℤ, pos, negsuc, ◌+◌, ◌*◌, ◌==◌, Bool, true, ◌&&◌, nat_le, Option, Some, None, Result, Ok, Err, List, [], ◌∷◌, length, if◌then◌else◌}
use Rattle.std.specs.List.{slice_split}
use Rattle.std.specs.Str.{is_utf8}
use Rattle.key_compile.specs.Faults.{compile_fault}
use Rattle.key_text.specs.Included.{Named, with_text}
use Rattle.key_text.specs.Reading.{lines_of}
use Rattle.key_text.specs.KeymapLine.{KeymapLine}
use Rattle.key_text.specs.declared.fault.KeyFault.{KeyFault}
use Rattle.toml.specs.Data.{Data, Members, no_members, member, as_integer, as_str, as_table}
use Rattle.toml.specs.Parse.{parse_document}
use Rattle.vt_base.specs.Digits.{hex_value}
use Rattle.table_fields.specs.Checked.{check, collect, fault, ◌>>=◌}
use Rattle.table_fields.specs.FaultCodes.{KEYMAP, NO_DOCUMENT, OUT_OF_RANGE, SCAN_BYTE, TOO_MANY, WRONG_KIND}
use Rattle.table_fields.specs.declared.fault.TableFault.{TableFault}

abbrev pub document_in : Option Members → Result Members TableFault
document_in None = Err (fault NO_DOCUMENT 0 0)
document_in (Some members) = Ok members

-- the table of a document, which has to be UTF-8: 20 if the text is none
abbrev pub document_of : List ℕ → Result Members TableFault
document_of text = if is_utf8 text then document_in (parse_document text) else Err (fault NO_DOCUMENT 0 0)

-- every key of the table is known
abbrev pub keys_pass : (List ℕ → Bool) → Members → Bool
keys_pass is_known no_members = true
keys_pass is_known (member key value more) = is_known key && keys_pass is_known more

-- a number from low to high, of a value that is an integer
abbrev pub number_within : ℕ → ℕ → TableFault → ℤ → Result ℕ TableFault
number_within low high bad (pos n) = if nat_le low n && nat_le n high then Ok n else Err bad
number_within low high bad (negsuc n) = Err bad

abbrev pub number_in : ℕ → ℕ → TableFault → TableFault → Option ℤ → Result ℕ TableFault
number_in low high not_one bad None = Err not_one
number_in low high not_one bad (Some z) = number_within low high bad z

-- the number at a key, or the default if the key isn't set: 22 if it is no integer, 23 if it is out of range
abbrev pub number_of : ℕ → ℕ → ℕ → ℕ → ℕ → Option Data → Result ℕ TableFault
number_of part key default low high None = Ok default
number_of part key default low high (Some d) =
    number_in low high (fault WRONG_KIND part key) (fault OUT_OF_RANGE part key) (as_integer d)

-- a value that is a text
abbrev pub text_in : TableFault → Option (List ℕ) → Result (List ℕ) TableFault
text_in not_one None = Err not_one
text_in not_one (Some text) = Ok text

-- the text at a key, or the empty text if the key isn't set: 22 if it is no text
abbrev pub text_of : ℕ → ℕ → Option Data → Result (List ℕ) TableFault
text_of part key None = Ok []
text_of part key (Some d) = text_in (fault WRONG_KIND part key) (as_str d)

-- the texts of a table, by their names, after those before them
abbrev pub texts_after : TableFault → List Named → Members → Result (List Named) TableFault
texts_after not_one before no_members = Ok before
texts_after not_one before (member name d more) =
    text_in not_one (as_str d) >>= λ text. texts_after not_one (with_text name text before) more

abbrev pub texts_in : TableFault → Option Members → Result (List Named) TableFault
texts_in not_one None = Err not_one
texts_in not_one (Some members) = texts_after not_one [] members

-- the table of texts at a key, or no texts if the key isn't set: 22 if it is no such table
abbrev pub texts_of : ℕ → ℕ → Option Data → Result (List Named) TableFault
texts_of part key None = Ok []
texts_of part key (Some d) = texts_in (fault WRONG_KIND part key) (as_table d)

-- the fault of a keymap: 24 at the keymap's own line and column
abbrev pub keymap_fault : KeyFault → TableFault
keymap_fault f = fault KEYMAP f.line f.column

abbrev pub lines_read : Result (List KeymapLine) KeyFault → Result (List KeymapLine) TableFault
lines_read (Ok lines) = Ok lines
lines_read (Err f) = Err (keymap_fault f)

abbrev pub lines_compiled : List KeymapLine → Option KeyFault → Result (List KeymapLine) TableFault
lines_compiled lines None = Ok lines
lines_compiled lines (Some f) = Err (keymap_fault f)

-- the lines of a keymap that may include these texts, if they can be compiled
abbrev pub keymap_of : List Named → List ℕ → Result (List KeymapLine) TableFault
keymap_of texts keymap =
    lines_read (lines_of texts keymap) >>= λ lines. lines_compiled lines (compile_fault lines)

-- two hexadecimal digits are a byte
abbrev pub pair_of : Option ℕ → Option ℕ → Option ℕ
pair_of (Some high) (Some low) = Some (16 * high + low)
pair_of (Some high) None = None
pair_of None low = None

abbrev pub byte_of : List ℕ → Option ℕ
byte_of (high ∷ low ∷ []) = pair_of (hex_value high) (hex_value low)
byte_of item = None

abbrev pub byte_in : TableFault → Option ℕ → Result ℕ TableFault
byte_in not_one None = Err not_one
byte_in not_one (Some b) = Ok b

-- the items of a text of bytes: its parts between single blanks; the empty text has none
abbrev pub items_of : List ℕ → List (List ℕ)
items_of [] = []
items_of (c ∷ text) = slice_split (λ b. b == 0x20) (c ∷ text)

-- the most scan bytes of a table; this project's own
abbrev pub most_scan_bytes : ℕ
most_scan_bytes = 100000

-- the items of a text of scan bytes: 29 if there are too many, at its key
abbrev pub few_items_of : ℕ → ℕ → List ℕ → Result (List (List ℕ)) TableFault
few_items_of part key text = do
  few ← check (nat_le (length (items_of text)) most_scan_bytes) (fault TOO_MANY part key)
  Ok (items_of text)

-- the bytes of items: a fault of this kind at the first that is none
abbrev pub bytes_of : ℕ → ℕ → List (List ℕ) → Result (List ℕ) TableFault
bytes_of kind part items = collect (λ n item. byte_in (fault kind part n) (byte_of item)) 1 items

-- the scan bytes of a text: 29 if there are too many, at its key; 27 at the first item that is none
abbrev pub scan_bytes_of : ℕ → ℕ → List ℕ → Result (List ℕ) TableFault
scan_bytes_of part key text = few_items_of part key text >>= bytes_of SCAN_BYTE part
