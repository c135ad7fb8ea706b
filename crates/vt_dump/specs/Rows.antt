-- The text of rows.
use Rattle.std.specs.Prelude.{ℕ, Bool, ◌&&◌, ◌||◌, nat_le, List, [], ◌∷◌, ◌++◌, encode_utf8, if◌then◌else◌}
use Rattle.std.specs.List.{flat_map}
use Rattle.vt_cells.specs.Width.{is_half}
use Rattle.vt_cells.specs.declared.cell.Cell.{Cell}

-- a printable character of ASCII
abbrev pub is_printable_ascii : ℕ → Bool
is_printable_ascii code = nat_le 0x20 code && nat_le code 0x7E

-- the code is a character's, and no control character's: 20 to 7E, and A0 to 10FFFF except the surrogates
abbrev pub is_shown : ℕ → Bool
is_shown code =
    is_printable_ascii code
    || ((nat_le 0xA0 code && nat_le code 0xD7FF) || (nat_le 0xE000 code && nat_le code 0x10FFFF))

-- a cell's character in UTF-8, or a question mark; no bytes for a right half, whose character stands in the
-- cell before
abbrev pub cell_text : Cell → List ℕ
cell_text cell =
    if is_half cell then []
    else if is_shown cell.code then encode_utf8 cell.code
    else 0x3F ∷ []

-- a bar, the cells, a bar, and the line's end
abbrev pub row_text : List Cell → List ℕ
row_text row = 0x7C ∷ flat_map cell_text row ++ 0x7C ∷ 0x0A ∷ []

-- the rows from top to bottom
abbrev pub rows_text : List (List Cell) → List ℕ
rows_text rows = flat_map row_text rows
