use Rattle.std.proofs.Common.{◌≡◌, ◌<◌, ◌≤◌, ◌+◌, ◌-◌, ◌++◌, ℕ, List, drop, length, map, take}
use Rattle.std.specs.List.{flat_map}
use Rattle.c_calls.specs.Places.{filled, with_items}
use Rattle.c_cells.specs.Cells.{c_cell}
use Rattle.screen_c.specs.Shown.{c_out}
use Rattle.c_cells.specs.declared.vt_cell.VtCell.{VtCell}
use Rattle.vt_screen.specs.Falling.{AreWide, rows_of_run}
use Rattle.vt_screen.specs.Run.{after, outs_of_run}
use Rattle.screen_c.proofs.feeding_by_rows.feed_by_rows.Given as goal

abbrev pub invariant-loop-n : goal.invariant-loop-n
invariant-loop-n l = record {
  within : l.at ≤ length l.b;
  full : l.n ≤ length l.places;
  size : length l.places ≡ length l.fn.places;
  screen : l.emu ≡ after l.fn.emu (take l.at l.b);
  first : (k : ℕ) → k < l.at → length (outs_of_run l.fn.emu (take k l.b)) < length l.fn.places;
  count : l.n ≡ length (outs_of_run l.fn.emu (take l.at l.b));
  places : l.places ≡ map c_out (outs_of_run l.fn.emu (take l.at l.b)) ++ drop l.n l.fn.places;
  room : (k : ℕ) → k < l.at → length (rows_of_run l.fn.emu (take k l.b)) + 2 ≤ l.most;
  cols : l.emu.state.grid.cols ≡ l.fn.emu.state.grid.cols;
  wide : AreWide l.fn.emu.state.grid.cols (rows_of_run l.fn.emu (take l.at l.b));
  rows : length (rows_of_run l.fn.emu (take l.at l.b)) + l.left ≡ l.most;
  cells : (more : List VtCell) → filled l.filled more l.cells
      ≡ with_items (flat_map (map c_cell) (rows_of_run l.fn.emu (take l.at l.b)) ++ more) l.fn.cells;
}

abbrev pub decreases-loop-n : goal.decreases-loop-n
decreases-loop-n l = length l.b - l.at
