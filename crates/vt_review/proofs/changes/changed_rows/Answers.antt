use Rattle.vt_review.proofs.OldRows.{any_rows}
use Rattle.vt_review.proofs.changes.changed_rows.Goals as goal

pub returns-in-None : goal.returns-in-None
returns-in-None c = any_rows c.args.old.now c.args.new.now.rows c.args.event.now

pub returns-in_default : goal.returns-in_default
returns-in_default c = any_rows c.args.old.now c.args.new.now.rows c.args.event.now
