use Rattle.std.proofs.Common.{◌≡◌, ◌++◌, drop, flat_map, map}
use Rattle.std.specs.Prelude.{option_copied}
use Rattle.vt_dump.specs.Rows.{row_text}
use Rattle.vt_review.specs.Announcements.{new_rows}
use Rattle.vt_review.specs.Lines.{ear_lines}
use Rattle.vt_review.specs.Screens.{texts_of}
use Rattle.vt_review.proofs.screens.tell_rows.Given as goal

abbrev pub invariant-loop-y : goal.invariant-loop-y
invariant-loop-y g l =
    l.text.bytes
    ++ flat_map (ear_lines 0 l.rows.place l.ears)
    (new_rows l.rows.console (texts_of (option_copied l.rows.before)) l.y (map row_text (drop l.y l.rows.after.now.cells)))
    ≡ l.fn.text.bytes
    ++ flat_map (ear_lines 0 l.rows.place l.ears)
    (new_rows l.rows.console (texts_of (option_copied l.rows.before)) 0 (map row_text l.rows.after.now.cells))
