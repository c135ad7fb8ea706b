-- How many columns a character takes. The widths are those of the crate `unicode_width`.
use Rattle.std.specs.Prelude.{◌≡◌, ◌≢◌, ℕ, ◌<◌, ◌≤◌, ◌==◌, ◌&&◌, ◌||◌, ◌/◌, Bool, true, false, nat_lt, nat_le, min, unwrap_or, List, [], ◌∷◌, if◌then◌else◌}
use Rattle.std.specs.List.{list_any}
use Rattle.unicode_width.specs.Width.{char_width}
use Rattle.vt_cells.specs.declared.cell.Cell.{Cell}

-- the code of the right half of the character to its left, which no character has. This project's
-- own
abbrev pub half : ℕ
half = 0x110000

-- the cell is the right half of the character to its left
abbrev pub is_half : Cell → Bool
is_half c = c.code == half

-- the code is that of a character: a code point, and no surrogate
abbrev pub is_character : ℕ → Bool
is_character code = nat_lt code 0xD800 || (nat_le 0xE000 code && nat_lt code 0x110000)

-- the width of a character, at most 2. A control character has no width and takes one column, and so does a
-- code that is no character
unfoldable pub columns : ℕ → ℕ
columns code = if is_character code then min 2 (unwrap_or (char_width false code) 1) else 1

-- blocks of 64 codes whose codes all take one column, each from a first to a last one: ASCII; the Latin
-- letters; those of Greek and Cyrillic, and more of these; currency; letterlike signs, arrows and
-- mathematics; pictures of controls, frames and boxes
abbrev pub plain_blocks : List (ℕ × ℕ)
plain_blocks =
    (0x00, 0x01)
    ∷ (0x03, 0x0B)
    ∷ (0x0E, 0x11)
    ∷ (0x13, 0x14)
    ∷ (0x78, 0x7F)
    ∷ (0x82, 0x82)
    ∷ (0x84, 0x8B)
    ∷ (0x90, 0x96)
    ∷ []

-- the code is of one of these blocks
abbrev pub is_plain : ℕ → Bool
is_plain code = list_any (λ blocks. nat_le blocks.0 (code / 64) && nat_le (code / 64) blocks.1) plain_blocks

-- a plain code takes one column
abbrev pub PlainTakeOne : Type 0
PlainTakeOne = (code : ℕ) → is_plain code ≡ true → columns code ≡ 1

-- below the combining marks each code except the soft hyphen takes one column
abbrev pub LowTakeOne : Type 0
LowTakeOne = (code : ℕ) → code < 0x300 → code ≢ 0xAD → columns code ≡ 1

-- a code for private use takes one column, as the places of a font do
abbrev pub PrivateTakeOne : Type 0
PrivateTakeOne = (code : ℕ) → 0xE000 ≤ code → code < 0xF900 → columns code ≡ 1

-- no code takes more than two columns
abbrev pub AtMostTwo : Type 0
AtMostTwo = (code : ℕ) → columns code ≤ 2

-- a letter and its accent; the soft hyphen, the joiner and the sign that requests an emoji; a Han character
-- and a face; the replacement character and codes that are no character; a heart, a letter of a flag and a
-- skin tone; the diamond and the four scan lines of the VT100
pub record WorkedColumns : Type 0 where
  pub letter : columns 0x65 ≡ 1
  pub accent : columns 0x301 ≡ 0
  pub soft_hyphen : columns 0xAD ≡ 0
  pub joiner : columns 0x200D ≡ 0
  pub selector : columns 0xFE0F ≡ 0
  pub han : columns 0x4E2D ≡ 2
  pub face : columns 0x1F600 ≡ 2
  pub replacement : columns 0xFFFD ≡ 1
  pub right_half : columns half ≡ 1
  pub surrogate : columns 0xD800 ≡ 1
  pub heart : columns 0x2764 ≡ 1
  pub flag : columns 0x1F1E6 ≡ 1
  pub tone : columns 0x1F3FB ≡ 2
  pub widest : columns 0x17D8 ≡ 2
  pub diamond : columns 0x25C6 ≡ 1
  pub lines : (columns 0x23BA ≡ 1) × (columns 0x23BB ≡ 1) × (columns 0x23BC ≡ 1) × (columns 0x23BD ≡ 1)
