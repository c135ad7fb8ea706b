use Rattle.std.proofs.Common.{◌≡◌, ◌++◌, drop, map, take}
use Rattle.std.specs.List.{range_with_len}
use Rattle.machine_c.specs.Cells.{row_of}
use Rattle.machine_c.proofs.shown_cells.grid_of.Given as goal

abbrev pub invariant-loop-y : goal.invariant-loop-y
invariant-loop-y l = record {
  rows : l.grid.rows ≡ l.fn.size.rows;
  cols : l.grid.cols ≡ l.fn.size.cols;
  cells :
      l.grid.cells
      ≡ take l.y (map (row_of l.fn.size.cols l.cells) (range_with_len 0 l.fn.size.rows))
      ++ drop l.y l.initial.grid.cells;
}
