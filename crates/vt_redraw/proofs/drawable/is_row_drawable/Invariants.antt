use Rattle.std.proofs.Common.{◌≡◌, false}
use Rattle.vt_grid.specs.Grid.{row_at}
use Rattle.vt_redraw.specs.Drawable.{are_drawable}
use Rattle.vt_redraw.proofs.drawable.is_row_drawable.Given as goal

abbrev pub invariant-loop-cell : goal.invariant-loop-cell
invariant-loop-cell l = are_drawable l.wide l.attr l.cell-iterator ≡ are_drawable false 0 (row_at l.g l.y)
