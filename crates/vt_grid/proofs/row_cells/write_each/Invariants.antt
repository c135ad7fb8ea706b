use Rattle.std.proofs.Common.{◌≡◌, ◌+◌, ◌≤◌, ◌++◌, drop, length, take}
use Rattle.vt_grid.proofs.row_cells.write_each.Given as goal

abbrev pub invariant-loop-cell : goal.invariant-loop-cell
invariant-loop-cell l =
    (length l.places ≡ length l.fn.places)
    × (take l.n l.places ++ l.cell-iterator ≡ l.fn.cells)
    × (drop l.n l.places ≡ drop l.n l.fn.places)
    × (l.n + length l.cell-iterator ≤ length l.places)
