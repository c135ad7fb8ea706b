-- The keyboards of a session: the keymap, and the scan bytes of each. This project's own.
use Rattle.std.specs.Prelude.{◌≡◌, ℕ, ◌+◌, nat_le, min, Option, Result, Ok, List, length, codes}
use Rattle.key_compile.specs.Compiled.{AreTablesOf}
use Rattle.key_text.specs.KeymapLine.{KeymapLine}
use Rattle.table_fields.specs.Arrays.{array_of, count_of}
use Rattle.table_fields.specs.Checked.{check, collect, fault, ◌>>=◌}
use Rattle.table_fields.specs.FaultCodes.{FURTHER_SCAN_BYTE, OUT_OF_RANGE}
use Rattle.table_fields.specs.Fields.{bytes_of, few_items_of, keymap_of, scan_bytes_of, text_of, texts_of}
use Rattle.table_fields.specs.declared.fault.TableFault.{TableFault}
use Rattle.toml.specs.Data.{Data, Members, as_str, get_member}
use Rattle.vt_events.specs.Kinds.{text}
use Rattle.session_text.specs.declared.session_keyboard.SessionKeyboard.{SessionKeyboard}

-- the lines of the keymap, and the scan bytes of the first keyboard
pub record Typed : Type 0 where
  pub lines : List KeymapLine
  pub keys : List ℕ

-- the keys seven to nine, in the order of the checks
abbrev pub typed_of : Members → Result Typed TableFault
typed_of members = do
  texts ← texts_of 0 7 (get_member (codes "include") members)
  keymap ← text_of 0 8 (get_member (codes "keymap") members)
  lines ← keymap_of texts keymap
  items ← text_of 0 9 (get_member (codes "keys") members)
  keys ← scan_bytes_of 0 9 items
  Ok (record { lines = lines; keys = keys })

-- the keyboard in code is this one
abbrev pub IsKeyboardOf : SessionKeyboard → Typed → Type 0
IsKeyboardOf keyboard typed =
    AreTablesOf typed.lines keyboard.tables × (keyboard.keys ≡ text typed.keys)

-- how many keyboards there are, with the first one: the array at a key has a text for each further one,
-- and there are at most four
abbrev pub keyboards_of : Option Data → ℕ
keyboards_of d = min 4 (count_of d + 1)

-- the items of the texts at a key: fault 23 if there are more than three texts, fault 29 if one of them has too
-- many items
abbrev pub further_items_of : Option Data → Result (List (List (List ℕ))) TableFault
further_items_of d = do
  texts ← array_of as_str 0 12 d
  few ← check (nat_le (length texts) 3) (fault OUT_OF_RANGE 0 12)
  collect (λ k text. few_items_of 0 12 text) 1 texts

-- the scan bytes of the further keyboards, which are counted from 1: fault 30 at the first item that isn't a
-- scan byte
abbrev pub further_of : Option Data → Result (List (List ℕ)) TableFault
further_of d = further_items_of d >>= collect (bytes_of FURTHER_SCAN_BYTE) 1
