-- Groups of scan bytes: the lists of bytes that are one, and the key that each names. This project's own.
use Rattle.std.specs.Prelude.{◌≢◌, ℕ, ◌+◌, ◌%◌, Bool, true, false, ◌==◌, ◌&&◌, ◌||◌, not, nat_le, nat_lt, Option, Some, None, List, [], ◌∷◌, ◌++◌, IsTrue, if◌then◌else◌, slice_index}
use Rattle.scan_codes.specs.declared.key_event.KeyEvent.{KeyEvent}

-- E0 goes with one byte more, E1 with two; every other byte is a group by itself
abbrev pub is_group : List ℕ → Bool
is_group (a ∷ []) = not (a == 0xE0 || a == 0xE1)
is_group (a ∷ b ∷ []) = a == 0xE0
is_group (a ∷ b ∷ c ∷ []) = a == 0xE1
is_group _ = false

-- the bytes are a proper prefix of a group
abbrev pub Begins : List ℕ → Type 0
Begins bytes = (more : List ℕ) × (more ≢ []) × IsTrue (is_group (bytes ++ more))

-- the scan numbers that name a key: from 1 on, and those after E0 from 129 on
abbrev pub is_scan : ℕ → Bool
is_scan scan = (nat_le 1 scan && nat_le scan 127) || (nat_le 129 scan && nat_le scan 255)

-- a keycode goes down or up; 0 is none
abbrev pub event : ℕ → Bool → Option KeyEvent
event code down = if code == 0 then None else Some (record { code = code; down = down })

-- the key of a scan number, by the translation
abbrev pub key : List ℕ → ℕ → Bool → Option KeyEvent
key codes scan down = if is_scan scan then event (slice_index codes scan) down else None

-- the key goes down: the high bit of the byte is 0
abbrev pub is_down : ℕ → Bool
is_down b = nat_lt b 0x80

-- E1 names the key Pause alone, which has the keycode 119
abbrev pub pause : ℕ → ℕ → Option KeyEvent
pause b c =
    if b == 0x1D && c == 0x45 then event 119 true
    else if b == 0x9D && c == 0xC5 then event 119 false
    else None

-- the event that a group names: the low seven bits are its scan number, after E0 with 128 added
abbrev pub named_by : List ℕ → List ℕ → Option KeyEvent
named_by codes (b ∷ []) =
    if b == 0x00 || b == 0xFF then None else key codes (b % 0x80) (is_down b)
named_by codes (a ∷ b ∷ []) = key codes (0x80 + b % 0x80) (is_down b)
named_by codes (a ∷ b ∷ c ∷ []) = pause b c
named_by codes _ = None
