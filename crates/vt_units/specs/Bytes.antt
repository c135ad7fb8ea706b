-- The kinds of bytes that units are made of (console_codes(4)). The rules for the bytes that interrupt or
-- drop a sequence are this project's own.
use Rattle.std.specs.Prelude.{ℕ, Bool, not, ◌==◌, ◌&&◌, ◌||◌, nat_lt}
use Rattle.vt_chars.specs.Utf8.{within}
use Rattle.vt_units.specs.declared.mode.Mode.{Mode}

-- an intermediate byte of an escape sequence
abbrev pub is_mid : ℕ → Bool
is_mid b = within 0x20 0x2F b

-- a byte of a control sequence before its last one
abbrev pub is_body : ℕ → Bool
is_body b = within 0x20 0x3F b

abbrev pub is_digit : ℕ → Bool
is_digit b = within 0x30 0x39 b

abbrev pub is_hex : ℕ → Bool
is_hex b = is_digit b || within 0x41 0x46 b || within 0x61 0x66 b

-- a byte that opens a string after ESC: P, X, ^ and _
abbrev pub opens_string : ℕ → Bool
opens_string b = b == 0x50 || b == 0x58 || b == 0x5E || b == 0x5F

-- a byte that ends a string by itself: BEL, CAN and SUB
abbrev pub ends_string : ℕ → Bool
ends_string b = b == 0x07 || b == 0x18 || b == 0x1A

-- a byte that a string swallows
abbrev pub is_swallowed : ℕ → Bool
is_swallowed b = not (ends_string b || b == 0x1B)

-- text is UTF-8, and no control character is shown
abbrev pub decodes : Mode → Bool
decodes m = m.utf8 && not m.display

-- a byte that is CSI if no text is pending
abbrev pub is_csi : Mode → ℕ → Bool
is_csi m b = b == 0x9B && (m.display || not m.utf8)

-- a control character that is never shown: NUL, BS, LF, FF, CR, SO and SI
abbrev pub is_never_shown : ℕ → Bool
is_never_shown b =
    b == 0x00 || b == 0x08 || b == 0x0A || b == 0x0C || b == 0x0D || b == 0x0E || b == 0x0F

-- a control character if no text is pending, except ESC
abbrev pub is_control : Mode → ℕ → Bool
is_control m b = nat_lt b 0x20 && (not m.display || is_never_shown b)

-- a byte that breaks a sequence off and begins the next one: ESC, and CSI in byte mode
abbrev pub interrupts : Mode → ℕ → Bool
interrupts m b = b == 0x1B || (b == 0x9B && not m.utf8)

-- a control character that acts inside a sequence: each except CAN, SUB and ESC
abbrev pub acts : ℕ → Bool
acts b = nat_lt b 0x20 && not (b == 0x18 || b == 0x1A || b == 0x1B)

-- a byte that is part of a sequence: it doesn't act, doesn't interrupt and isn't DEL
abbrev pub joins : Mode → ℕ → Bool
joins m b = not (acts b || interrupts m b || b == 0x7F)

-- a byte that is part of a sequence after ESC ], where DEL is part of it too
abbrev pub joins_command : Mode → ℕ → Bool
joins_command m b = not (acts b || interrupts m b)

-- a printable character of ASCII
abbrev pub is_printable : ℕ → Bool
is_printable b = within 0x20 0x7E b
