use Rattle.std.proofs.Common.{◌≡◌, ◌++◌, List, drop, map}
use Rattle.std.specs.List.{flat_map}
use Rattle.c_calls.specs.Places.{filled}
use Rattle.c_cells.specs.Cells.{c_cell}
use Rattle.c_cells.specs.declared.vt_cell.VtCell.{VtCell}
use Rattle.screen_c.proofs.feeding_by_rows.put_rows.Given as goal

abbrev pub invariant-loop-y : goal.invariant-loop-y
invariant-loop-y l =
    (more : List VtCell) → filled l.n (flat_map (map c_cell) (drop l.y l.rows) ++ more) l.places
    ≡ filled l.fn.n (flat_map (map c_cell) l.rows ++ more) l.fn.places
