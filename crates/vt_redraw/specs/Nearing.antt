-- The row of the nearest screen, from a place on. No public clause names this.
use Rattle.std.specs.Prelude.{Bool, true, false, ◌&&◌, List, [], ◌∷◌}
use Rattle.vt_cells.specs.declared.cell.Cell.{Cell}
use Rattle.vt_redraw.specs.Near.{is_half_of, is_wide, near_row}

-- the cells begin with a character of two columns and its right half
abbrev pub begins_pair : List Cell → Bool
begins_pair [] = false
begins_pair (c ∷ []) = false
begins_pair (c ∷ (next ∷ cells)) = is_wide c && is_half_of c next

-- the cells of the nearest row. It is given whether the first one is the right half of the cell before it
abbrev pub near_from : Bool → List Cell → List Cell
near_from true [] = []
near_from true (c ∷ cells) = c ∷ near_row cells
near_from false cells = near_row cells
