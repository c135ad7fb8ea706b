use Rattle.std.proofs.Common.{◌≡◌, ◌++◌, drop}
use Rattle.vt_dump.specs.Rows.{row_text}
use Rattle.vt_grid.specs.Grid.{row_at}
use Rattle.vt_review.specs.Announcements.{row_told}
use Rattle.vt_review.specs.Lines.{ear_lines}
use Rattle.vt_review.proofs.entry_lines.tell_row.Given as goal

abbrev pub invariant-loop-a : goal.invariant-loop-a
invariant-loop-a g l =
    l.text.bytes
    ++ ear_lines l.a l.rows.place (drop l.a l.ears) (row_told l.rows.console l.y (row_text (row_at l.rows.after.now l.y)))
    ≡ l.fn.text.bytes ++ ear_lines 0 l.rows.place l.ears (row_told l.rows.console l.y (row_text (row_at l.rows.after.now l.y)))
