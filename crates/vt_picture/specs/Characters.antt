-- The characters of cells as XML writes them.
use Rattle.std.specs.Prelude.{ℕ, Bool, ◌==◌, ◌&&◌, ◌||◌, nat_le, List, [], codes, encode_utf8, if◌then◌else◌}
use Rattle.vt_cells.specs.Width.{is_half}
use Rattle.vt_cells.specs.declared.cell.Cell.{Cell}

-- the code is that of a character that XML 1.0 has, and no control character's
abbrev pub is_text : ℕ → Bool
is_text code =
    (nat_le 0x20 code && nat_le code 0x7E)
    || (nat_le 0xA0 code && nat_le code 0xD7FF)
    || (nat_le 0xE000 code && nat_le code 0xFFFD)
    || (nat_le 0x10000 code && nat_le code 0x10FFFF)

-- a character in UTF-8: the three signs of markup are written by their names, and a code that isn't text
-- as U+FFFD
unfoldable pub markup_of : ℕ → List ℕ
markup_of code =
    if code == 0x26 then codes "&amp;"
    else if code == 0x3C then codes "&lt;"
    else if code == 0x3E then codes "&gt;"
    else if is_text code then encode_utf8 code
    else encode_utf8 0xFFFD

-- a cell's character. A right half is empty: its character is in the cell to its left
unfoldable pub cell_text : Cell → List ℕ
cell_text cell = if is_half cell then [] else markup_of cell.code
