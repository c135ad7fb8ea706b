use Rattle.vt_journal.proofs.Once.{behind_bytes}
use Rattle.vt_journal.proofs.tail_lines.take_full.Goals as goal

pub returns-in_err-charge-clause-takes : goal.returns-in_err-charge-clause-takes
returns-in_err-charge-clause-takes c =
    rw c.from_residual-in_err-charge.ensures
    (λ end rest fit is.
    let ahead =
    behind_bytes c.args.words.now c.take_number.new.words c.take_number-2.new.words c.in_ok-events.events
    c.in_ok-bytes.bytes end rest fit c.in_ok-events.ensures.takes c.in_ok-bytes.ensures.takes is in
    c.in_err-charge.ensures.takes ahead.0 ahead.1 ahead.2 ahead.3)
