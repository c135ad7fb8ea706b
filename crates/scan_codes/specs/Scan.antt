-- The result of a scan byte after the bytes before it.
use Rattle.std.specs.Prelude.{ℕ, Option, None, List, [], ◌∷◌, ◌++◌, map, if◌then◌else◌, slice_set}
use Rattle.std.specs.List.{range_with_len}
use Rattle.scan_codes.specs.Groups.{is_group, named_by}
use Rattle.scan_codes.specs.Start.{start_code}
use Rattle.scan_codes.specs.declared.key_event.KeyEvent.{KeyEvent}

-- the bytes since the last whole group, and the keycode of each scan number from 0 to 255, 0 for none
pub record Scan : Type 0 where
  pub bytes : List ℕ
  pub codes : List ℕ

abbrev pub scan_of : List ℕ → List ℕ → Scan
scan_of bytes codes = record { bytes = bytes; codes = codes }

-- the translation of the start
unfoldable pub start_codes : List ℕ
start_codes = map start_code (range_with_len 0 256)

-- no bytes, and the translation of the start
abbrev pub start_scan : Scan
start_scan = scan_of [] start_codes

-- the event if the byte ends a group: the one that the group names, by the current translation
abbrev pub event_after : List ℕ → List ℕ → ℕ → Option KeyEvent
event_after codes bytes b =
    let all = bytes ++ b ∷ [] in if is_group all then named_by codes all else None

-- the bytes since the last whole group, with this byte
abbrev pub bytes_after : List ℕ → ℕ → List ℕ
bytes_after bytes b = let all = bytes ++ b ∷ [] in if is_group all then [] else all

-- a scan number has another keycode
abbrev pub with_code : Scan → ℕ → ℕ → Scan
with_code s scan code = record s { codes = slice_set s.codes scan code }
