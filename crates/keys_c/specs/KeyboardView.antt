-- A keymap's tables, and a keyboard that types by them into any console.
use Rattle.std.specs.Prelude.{ℕ, List}
use Rattle.key_machine.specs.Keys.{Keys, start_keys, after_unplug}
use Rattle.key_syms.specs.Act.{act}
use Rattle.key_syms.specs.declared.pair.Pair.{Pair}
use Rattle.key_tables.specs.Tables.{Tables, with_entry, with_func, with_pairs}
use Rattle.scan_codes.specs.Scan.{Scan, start_scan, with_code}

pub record KeyboardView : Type 0 where
  pub tables : Tables
  pub scanner : Scan
  pub keys : Keys

abbrev pub keyboard_of : Tables → Scan → Keys → KeyboardView
keyboard_of tables scanner keys = record {
  tables = tables;
  scanner = scanner;
  keys = keys;
}

-- no key was typed
abbrev pub start_keyboard : Tables → KeyboardView
start_keyboard tables = keyboard_of tables start_scan start_keys

-- keyboard 0, the one that a handle types on, is unplugged: its keys are released
abbrev pub with_keys_up : KeyboardView → KeyboardView
with_keys_up k = record k { keys = after_unplug 0 k.keys }

-- the keyboard with another string of a function key
abbrev pub with_string : KeyboardView → ℕ → List ℕ → KeyboardView
with_string k number text = record k { tables = with_func k.tables number text }

-- the keyboard with another action of a key in a table
abbrev pub with_action : KeyboardView → ℕ → ℕ → ℕ → ℕ → KeyboardView
with_action k table code kind value = record k { tables = with_entry k.tables table code (act kind value) }

-- the keyboard with another keycode of a scan number
abbrev pub with_keycode : KeyboardView → ℕ → ℕ → KeyboardView
with_keycode k scan code = record k { scanner = with_code k.scanner scan code }

-- the keyboard with other pairs of compose keys
abbrev pub with_accents : KeyboardView → List Pair → KeyboardView
with_accents k pairs = record k { tables = with_pairs k.tables pairs }
