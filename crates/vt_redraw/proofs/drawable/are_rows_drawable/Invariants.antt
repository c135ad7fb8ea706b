use Rattle.std.proofs.Common.{◌≡◌, drop}
use Rattle.std.specs.List.{list_all}
use Rattle.vt_redraw.specs.Drawable.{is_row_drawable}
use Rattle.vt_redraw.proofs.drawable.are_rows_drawable.Given as goal

abbrev pub invariant-loop-y : goal.invariant-loop-y
invariant-loop-y l = list_all is_row_drawable (drop l.y l.g.cells) ≡ list_all is_row_drawable l.g.cells
