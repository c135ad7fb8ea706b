use Rattle.std.proofs.Common.{sym, ◌∙◌}
use Rattle.vt_check.proofs.Tested.{next_is}
use Rattle.vt_check.proofs.judge.Judge.is_next.Goals as goal

pub returns-in-Some : goal.returns-in-Some
returns-in-Some c = λ o h at.
    next_is o h c.args.self.now c.args.entry.now c.goes_on_waiting.result c.same_event.result c.in-Some.call at
    c.if-goes_on_waiting.false c.goes_on_waiting.ensures (sym c.in-Some.is ∙ c.in_ok-call.ensures o h at)
    c.same_event.ensures
