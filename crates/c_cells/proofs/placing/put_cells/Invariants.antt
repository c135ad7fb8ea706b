use Rattle.std.proofs.Common.{◌≡◌, ◌≤◌, ◌-◌, ◌++◌, drop, length, map, take}
use Rattle.c_cells.specs.Cells.{c_cell}
use Rattle.vt_grid.specs.Grid.{row_at}
use Rattle.c_cells.proofs.placing.put_cells.Given as goal

abbrev pub invariant-loop-n : goal.invariant-loop-n
invariant-loop-n l = record {
  within : l.n ≤ l.count;
  size : length l.places ≡ length l.fn.places;
  places : l.places ≡ take l.n (map c_cell (row_at l.grid l.y)) ++ drop l.n l.fn.places;
}

abbrev pub decreases-loop-n : goal.decreases-loop-n
decreases-loop-n l = l.count - l.n
