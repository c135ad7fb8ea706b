use Rattle.std.proofs.Common.{◌≡◌, ◌++◌, drop, replicate}
use Rattle.vt_redraw.specs.Cells.{changed_rows}
use Rattle.vt_redraw.proofs.filled_rows.add_rows_but.Given as goal

abbrev pub invariant-loop-y : goal.invariant-loop-y
invariant-loop-y l =
    let olds = replicate l.g.rows (replicate l.g.cols l.c) in
    l.text.bytes ++ changed_rows l.y (drop l.y olds) (drop l.y l.g.cells)
    ≡ l.initial.text.bytes ++ changed_rows 0 olds l.g.cells
