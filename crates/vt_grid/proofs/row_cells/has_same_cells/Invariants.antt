use Rattle.std.proofs.Common.{◌≡◌, ◌↔◌, length}
use Rattle.vt_grid.proofs.row_cells.has_same_cells.Given as goal

abbrev pub invariant-loop-cell : goal.invariant-loop-cell
invariant-loop-cell l = (l.first ≡ l.second) ↔ (l.fn.first ≡ l.fn.second)

abbrev pub decreases-loop-cell : goal.decreases-loop-cell
decreases-loop-cell l = length l.first
