use Rattle.std.proofs.Common.{◌≡◌, ◌++◌, drop, map, take}
use Rattle.c_cells.specs.Cells.{cell_of}
use Rattle.vt_grid.specs.Grid.{row_at, with_row}
use Rattle.machine_c.proofs.shown_cells.put_row.Given as goal

abbrev pub invariant-loop-x : goal.invariant-loop-x
invariant-loop-x l = record {
  rows : l.grid.rows ≡ l.fn.grid.rows;
  cols : l.grid.cols ≡ l.fn.grid.cols;
  whole : l.grid ≡ with_row l.fn.grid l.y (take l.x (map cell_of l.cells) ++ drop l.x (row_at l.fn.grid l.y));
}
