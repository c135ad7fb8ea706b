-- The drawable rows, as characters.
use Rattle.std.specs.Prelude.{◌≡◌, ◌↔◌, ◌==◌, ◌<◌, true, List, [], ◌∷◌, All, if◌then◌else◌}
use Rattle.std.specs.List.{flat_map}
use Rattle.vt_cells.specs.Width.{columns, half}
use Rattle.vt_cells.specs.declared.cell.Cell.{Cell}
use Rattle.vt_redraw.specs.Drawable.{is_glyph, is_row_drawable}

-- the cells of a character: its own, and if it takes two columns, its right half with the same byte
abbrev pub cells_of_character : Cell → List Cell
cells_of_character c = c ∷ (if columns c.code == 2 then record c { code = half } ∷ [] else [])

-- the row is the cells of characters that print themselves
pub record HasCharacters (row : List Cell) : Type 0 where
  pub characters : List Cell
  pub print : All (λ (c : Cell). (is_glyph c.code ≡ true) × (c.attr < 256)) characters
  pub cells : row ≡ flat_map cells_of_character characters

-- exactly these rows are drawable
abbrev pub RowsAreCharacters : Type 0
RowsAreCharacters = (row : List Cell) → (is_row_drawable row ≡ true) ↔ HasCharacters row
