-- The text of cells and rows. A row's text depends on no other row: it begins with a motion, and the pen is
-- set at the first cell that needs it.
use Rattle.std.specs.Prelude.{ℕ, Bool, true, false, ◌+◌, ◌/◌, ◌%◌, ◌==◌, ◌&&◌, encode_utf8, List, [], ◌∷◌, ◌++◌, if◌then◌else◌}
use Rattle.vt_cells.specs.Width.{is_character, is_half}
use Rattle.vt_cells.specs.declared.cell.Cell.{Cell}
use Rattle.vt_redraw.specs.Sequences.{byte_text, erase_text, place_text}

-- a character in UTF-8; a code that is no character has no text
unfoldable pub glyph_text : ℕ → List ℕ
glyph_text code = if is_character code then encode_utf8 code else []

-- the pen's byte is set unless it is this one; 256 stands for a pen that isn't known
abbrev pub byte_change : ℕ → ℕ → List ℕ
byte_change now b = if now == b then [] else byte_text b

-- the byte is two colours alone: no blink, and nothing bright
abbrev pub is_ground : ℕ → Bool
is_ground b = b / 128 == 0 && b / 8 % 2 == 0

-- each of these cells is a space with this byte
abbrev pub are_spaces : ℕ → List Cell → Bool
are_spaces b [] = true
are_spaces b (c ∷ cells) = c.code == 0x20 && c.attr == b && are_spaces b cells

-- these cells, at least one, are all the same blank, as an erase leaves them
abbrev pub is_blank_end : List Cell → Bool
is_blank_end [] = false
is_blank_end (c ∷ cells) = is_ground c.attr && are_spaces c.attr (c ∷ cells)

-- the cells from the cursor to the end of its row, if the pen's byte is this one: each character, and an
-- erase for a blank end if one is wanted. A half has no text: its character stands before it
abbrev pub cells_text : Bool → ℕ → List Cell → List ℕ
cells_text erases now [] = []
cells_text erases now (c ∷ cells) =
    if erases && is_blank_end (c ∷ cells) then byte_change now c.attr ++ erase_text
    else if is_half c then cells_text erases now cells
    else byte_change now c.attr ++ (glyph_text c.code ++ cells_text erases c.attr cells)

-- row y
abbrev pub row_text : ℕ → List Cell → List ℕ
row_text y row = place_text y 0 ++ cells_text true 256 row

-- the cells are the same, one by one
abbrev pub are_same : List Cell → List Cell → Bool
are_same [] [] = true
are_same [] (c ∷ cells) = false
are_same (o ∷ olds) [] = false
are_same (o ∷ olds) (c ∷ cells) = o.code == c.code && o.attr == c.attr && are_same olds cells

-- the rows from y on that differ from the old ones
abbrev pub changed_rows : ℕ → List (List Cell) → List (List Cell) → List ℕ
changed_rows y olds [] = []
changed_rows y [] (row ∷ rows) = []
changed_rows y (old ∷ olds) (row ∷ rows) =
    (if are_same old row then [] else row_text y row) ++ changed_rows (y + 1) olds rows
