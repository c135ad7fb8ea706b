-- The keycodes that scan numbers have at the start. This project's own.
use Rattle.std.specs.Prelude.{ℕ, ◌+◌, ◌==◌, ◌&&◌, nat_le, List, [], ◌∷◌, if◌then◌else◌}

-- the bytes after E0 that name a key, and its keycode
abbrev pub after_e0 : List (ℕ × ℕ)
after_e0 =
    (0x1C, 96) ∷ (0x1D, 97) ∷ (0x35, 98) ∷ (0x37, 99) ∷ (0x38, 100) ∷ (0x47, 102)
    ∷ (0x48, 103) ∷ (0x49, 104) ∷ (0x4B, 105) ∷ (0x4D, 106) ∷ (0x4F, 107) ∷ (0x50, 108)
    ∷ (0x51, 109) ∷ (0x52, 110) ∷ (0x53, 111) ∷ (0x5B, 125) ∷ (0x5C, 126) ∷ (0x5D, 127)
    ∷ []

-- the keycode of a scan number in such a list, or 0
abbrev pub code_in : List (ℕ × ℕ) → ℕ → ℕ
code_in [] scan = 0
code_in (row ∷ rows) scan = if scan == 0x80 + row.0 then row.1 else code_in rows scan

-- 1 to 88 are the keycodes of these numbers
unfoldable pub start_code : ℕ → ℕ
start_code scan = if nat_le 1 scan && nat_le scan 88 then scan else code_in after_e0 scan
