use Rattle.std.proofs.Common.{◌≡◌, length, replicate}
use Rattle.vt_grid.specs.Grid.{row_at}
use Rattle.vt_redraw.specs.Cells.{are_same}
use Rattle.vt_redraw.proofs.filled_rows.is_row_filled.Given as goal

abbrev pub invariant-loop-cell : goal.invariant-loop-cell
invariant-loop-cell l =
    let rest = l.cell-iterator in
    are_same (replicate (length rest) l.c) rest ≡ are_same (replicate l.g.cols l.c) (row_at l.g l.y)
