-- Cursor keys and the numeric pad (console_codes(4), "DECCKM", "DECPAM").
use Rattle.std.specs.Prelude.{ℕ, Bool, ◌==◌, ◌&&◌, ◌||◌, List, [], ◌∷◌, if◌then◌else◌, slice_index}
use Rattle.key_machine.specs.Bytes.{return_bytes}
use Rattle.key_machine.specs.Keys.{is_on}
use Rattle.key_machine.specs.Numbers.{DOWN, ENTER, FIND, INSERT, LEFT, NEXT, NUM, PRIOR, REMOVE, RIGHT, SELECT, UP}
use Rattle.key_machine.specs.declared.key_modes.KeyModes.{KeyModes}
use Rattle.key_tables.specs.Tables.{Tables, func_of}

-- B, D, C and A
abbrev pub cursor_letters : List ℕ
cursor_letters = 0x42 ∷ 0x44 ∷ 0x43 ∷ 0x41 ∷ []

-- ESC [ and the letter, or with DECCKM ESC O and the letter
unfoldable pub cursor_bytes : Bool → ℕ → List ℕ
cursor_bytes application v =
    0x1B ∷ (if application then 0x4F else 0x5B) ∷ slice_index cursor_letters v ∷ []

-- pqrstuvwxylSRQMnn
abbrev pub pad_letters : List ℕ
pad_letters =
    0x70 ∷ 0x71 ∷ 0x72 ∷ 0x73 ∷ 0x74 ∷ 0x75 ∷ 0x76 ∷ 0x77 ∷ 0x78 ∷ 0x79
    ∷ 0x6C ∷ 0x53 ∷ 0x52 ∷ 0x51 ∷ 0x4D ∷ 0x6E ∷ 0x6E ∷ []

-- 0123456789+-*/, CR and ,.
abbrev pub pad_characters : List ℕ
pad_characters =
    0x30 ∷ 0x31 ∷ 0x32 ∷ 0x33 ∷ 0x34 ∷ 0x35 ∷ 0x36 ∷ 0x37 ∷ 0x38 ∷ 0x39
    ∷ 0x2B ∷ 0x2D ∷ 0x2A ∷ 0x2F ∷ 0x0D ∷ 0x2C ∷ 0x2E ∷ []

-- with NumLock: the character of the key
unfoldable pub pad_on : Bool → ℕ → List ℕ
pad_on newline v =
    if v == ENTER then return_bytes newline else slice_index pad_characters v ∷ []

-- without NumLock: the bytes of the cursor pad's key at the same place, and ESC [ G in the middle; a key
-- without such a key gives its character
unfoldable pub pad_off : Tables → KeyModes → ℕ → List ℕ
pad_off tables modes v =
    if v == 0 then func_of tables INSERT
    else if v == 1 then func_of tables SELECT
    else if v == 2 then cursor_bytes modes.cursor DOWN
    else if v == 3 then func_of tables NEXT
    else if v == 4 then cursor_bytes modes.cursor LEFT
    else if v == 5 then 0x1B ∷ 0x5B ∷ 0x47 ∷ []
    else if v == 6 then cursor_bytes modes.cursor RIGHT
    else if v == 7 then func_of tables FIND
    else if v == 8 then cursor_bytes modes.cursor UP
    else if v == 9 then func_of tables PRIOR
    else if v == 15 || v == 16 then func_of tables REMOVE
    else pad_on modes.newline v

-- with DECPAM, if no modifier is down, ESC O and the letter of the key
unfoldable pub pad_bytes : Tables → KeyModes → ℕ → ℕ → ℕ → List ℕ
pad_bytes tables modes weight flags v =
    if modes.keypad && weight == 0 then 0x1B ∷ 0x4F ∷ slice_index pad_letters v ∷ []
    else if is_on flags NUM then pad_on modes.newline v
    else pad_off tables modes v
