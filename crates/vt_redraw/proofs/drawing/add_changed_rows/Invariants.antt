use Rattle.std.proofs.Common.{◌≡◌, ◌++◌, drop}
use Rattle.vt_redraw.specs.Cells.{changed_rows}
use Rattle.vt_redraw.proofs.drawing.add_changed_rows.Given as goal

abbrev pub invariant-loop-y : goal.invariant-loop-y
invariant-loop-y l =
    l.text.bytes ++ changed_rows l.y (drop l.y l.old.cells) (drop l.y l.g.cells)
    ≡ l.initial.text.bytes ++ changed_rows 0 l.old.cells l.g.cells
