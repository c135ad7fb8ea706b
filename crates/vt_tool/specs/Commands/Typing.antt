-- The outcome of `type` for a table with a keymap and scan bytes: a line for each byte. This project's own:
-- docs/reference/keys.md.
use Rattle.std.specs.Prelude.{◌≡◌, ℕ, Bool, true, false, ◌==◌, ◌||◌, ◌∷◌, ◌++◌, [], codes, decimal, List, Option, Some, None, Result, Ok, Err, if◌then◌else◌}
use lib.Pointwise.{pointwise}
use lib.Dec.{eqb}
use Rattle.key_compile.specs.Compiled.{AreTablesOf}
use Rattle.key_machine.specs.Keys.{Keys, State, start_keys, start_modes, start_state}
use Rattle.key_machine.specs.Step.{Step, key_step}
use Rattle.key_machine.specs.declared.key_out.KeyOut.{KeyOut}
use Rattle.key_machine.specs.declared.key_out.KeyOut.TheVariants.{Attention, Bytes, Last, Next, Nothing, Prev, Spawn, Switch}
use Rattle.key_tables.specs.Tables.{Tables}
use Rattle.key_text.specs.KeymapLine.{KeymapLine}
use Rattle.scan_codes.specs.Laws.{events, rest}
use Rattle.scan_codes.specs.Scan.{event_after, start_codes}
use Rattle.scan_codes.specs.declared.key_event.KeyEvent.{KeyEvent}
use Rattle.toml.specs.Data.{Members, get_member}
use Rattle.vt_base.specs.Digits.{hex_byte}
use Rattle.vt_journal.specs.Hex.{hex_text}
use Rattle.vt_journal.specs.Journal.{line_text}
use Rattle.table_fields.specs.FaultCodes.{UNKNOWN_KEY}
use Rattle.table_fields.specs.Checked.{check, fault, ◌>>=◌}
use Rattle.table_fields.specs.Fields.{document_of, keymap_of, keys_pass, number_of, scan_bytes_of, text_of, texts_of}
use Rattle.table_fields.specs.declared.fault.TableFault.{TableFault}
use Rattle.vt_tool.specs.Outcome.{Outcome, fine_text, no_text}
use Rattle.vt_tool.specs.declared.status.Status.TheVariants.{Refused}

-- a table: the keyboard mode, the lines of the keymap, and the scan bytes
pub record TypeTable : Type 0 where
  pub mode : ℕ
  pub lines : List KeymapLine
  pub keys : List ℕ

-- the keys of the table, counted from 1 in faults
abbrev pub is_type_key : List ℕ → Bool
is_type_key key =
    ((pointwise eqb key (codes "mode") || pointwise eqb key (codes "include"))
    || pointwise eqb key (codes "keymap")) || pointwise eqb key (codes "keys")

-- the table of a document, in the order of the checks
abbrev pub type_table_at : Members → Result TypeTable TableFault
type_table_at members = do
  known ← check (keys_pass is_type_key members) (fault UNKNOWN_KEY 0 0)
  mode ← number_of 0 1 3 0 4 (get_member (codes "mode") members)
  texts ← texts_of 0 2 (get_member (codes "include") members)
  keymap ← text_of 0 3 (get_member (codes "keymap") members)
  lines ← keymap_of texts keymap
  text ← text_of 0 4 (get_member (codes "keys") members)
  keys ← scan_bytes_of 0 4 text
  Ok (record { mode = mode; lines = lines; keys = keys })

-- the table of a text, or its first fault
abbrev pub type_table_of : List ℕ → Result TypeTable TableFault
type_table_of input = document_of input >>= type_table_at

-- the keyboard and the key state
pub record Typing : Type 0 where
  pub keys : Keys
  pub state : State

abbrev pub make_typing : Keys → State → Typing
make_typing keys state = record { keys = keys; state = state }

-- at first no key is down, and the state is the start state with this mode
abbrev pub start_typing : ℕ → Typing
start_typing mode = make_typing start_keys (record start_state { mode = mode })

-- a key event, on a start screen
abbrev pub typing_step : Tables → Typing → KeyEvent → Step
typing_step tables t e = key_step tables start_modes 0 e t.keys t.state

abbrev pub typed_on : Step → Typing
typed_on s = make_typing s.keys s.state

-- the keyboard and the state after key events
abbrev pub after_typing : Tables → Typing → List KeyEvent → Typing
after_typing tables t [] = t
after_typing tables t (e ∷ more) = after_typing tables (typed_on (typing_step tables t e)) more

-- the output of a key event, or nothing without one
abbrev pub said_by : Tables → Typing → Option KeyEvent → KeyOut
said_by tables t None = Nothing
said_by tables t (Some e) = (typing_step tables t e).out

-- the output of a scan byte after these bytes: their keys are typed, and then the key that it ends, if it
-- ends one
abbrev pub said_after : Tables → ℕ → List ℕ → ℕ → KeyOut
said_after tables mode before b =
    said_by tables (after_typing tables (start_typing mode) (events start_codes [] before))
    (event_after start_codes (rest [] before) b)

-- the words for the output of a key
abbrev pub out_words : KeyOut → List (List ℕ)
out_words (Bytes bytes) = codes "bytes" ∷ hex_text bytes ∷ []
out_words (Switch n) = codes "switch" ∷ decimal n ∷ []
out_words Last = codes "last" ∷ []
out_words Next = codes "next" ∷ []
out_words Prev = codes "prev" ∷ []
out_words Spawn = codes "spawn" ∷ []
out_words Attention = codes "attention" ∷ []
out_words Nothing = codes "-" ∷ []

abbrev pub is_attention : KeyOut → Bool
is_attention Attention = true
is_attention out = false

-- in K_RAW it is the scan byte itself, unless the attention key acts
abbrev pub line_words : ℕ → ℕ → KeyOut → List (List ℕ)
line_words mode b out =
    if mode == 0 then
    (if is_attention out then out_words out else codes "bytes" ∷ hex_byte b ∷ [])
    else out_words out

-- the line of a scan byte: the byte, and its output
abbrev pub typed_line : ℕ → ℕ → KeyOut → List ℕ
typed_line mode b out = line_text (hex_byte b ∷ line_words mode b out)

-- the lines of scan bytes after those before them
abbrev pub lines_after : Tables → ℕ → List ℕ → List ℕ → List ℕ
lines_after tables mode before [] = []
lines_after tables mode before (b ∷ bytes) =
    typed_line mode b (said_after tables mode before b)
    ++ lines_after tables mode (before ++ b ∷ []) bytes

abbrev pub typed_text : Tables → ℕ → List ℕ → List ℕ
typed_text tables mode bytes = lines_after tables mode [] bytes

-- the lines of the scan bytes of a table, by the tables of its keymap
pub record GivesTyped (input : List ℕ) (outcome : Outcome) : Type 0 where
  pub table : TypeTable
  pub tables : Tables
  pub read : type_table_of input ≡ Ok table
  pub compiled : AreTablesOf table.lines tables
  pub written : outcome ≡ fine_text (typed_text tables table.mode table.keys)

-- the table is refused at its first fault
pub record GivesTableFault (input : List ℕ) (outcome : Outcome) : Type 0 where
  pub fault : TableFault
  pub found : type_table_of input ≡ Err fault
  pub refused : outcome ≡ no_text (Refused fault.kind fault.part fault.item)
