use Rattle.std.proofs.Common.{◌≡◌, ◌++◌, drop}
use Rattle.vt_picture.specs.Picture.{rows_text}
use Rattle.vt_picture.proofs.rows.add_rows.Given as goal

abbrev pub invariant-loop-y : goal.invariant-loop-y
invariant-loop-y l =
    l.text.bytes ++ rows_text l.state l.y (drop l.y l.g.cells) ≡ l.fn.text.bytes ++ rows_text l.state 0 l.g.cells
