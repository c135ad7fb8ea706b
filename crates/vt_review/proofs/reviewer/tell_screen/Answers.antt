use Rattle.vt_review.proofs.OldRows.{others_of}
use Rattle.vt_review.proofs.reviewer.tell_screen.Goals as goal

pub tell_rows-requires : goal.tell_rows-requires
tell_rows-requires g c =
    others_of c.args.change.before.now c.args.change.after.now c.args.change.made.now c.args.console c.changed_rows-first.result.0
    c.changed_rows-first.result.1 c.in-Some-screen.old.now c.in-Some.screen.now c.grid.result.now
    c.grid-in-Some-screen.result.now c.grid-grid.result.now c.args.change.left c.grid.ensures.cells
    c.grid-in-Some-screen.ensures.cells c.grid-grid.ensures.cells c.stays_full-in-Some-screen.ensures.full
    c.stays_full.ensures.rows c.in-Some-screen.ensures.screen c.in-Some.ensures.screen c.changed_rows-first.ensures
