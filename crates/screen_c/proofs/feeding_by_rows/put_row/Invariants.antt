use Rattle.std.proofs.Common.{◌≡◌, ◌+◌, ◌++◌, List, drop, length, map}
use Rattle.c_calls.specs.Places.{filled}
use Rattle.c_cells.specs.Cells.{c_cell}
use Rattle.c_cells.specs.declared.vt_cell.VtCell.{VtCell}
use Rattle.screen_c.proofs.feeding_by_rows.put_row.Given as goal

abbrev pub invariant-loop-i : goal.invariant-loop-i
invariant-loop-i l =
    (length l.places ≡ length l.fn.places)
    × ((more : List VtCell) → filled (l.fn.n + l.i) (map c_cell (drop l.i l.cells) ++ more) l.places
    ≡ filled l.fn.n (map c_cell l.cells ++ more) l.fn.places)
