use Rattle.std.proofs.Common.{sym, ◌∙◌}
use Rattle.std.proofs.lemmas.Result.{IfOk-weaker}
use Rattle.vt_explore.proofs.Calls.{now_is}
use Rattle.vt_explore.proofs.position.Position.next.Goals as goal

pub returns : goal.returns
returns c = IfOk-weaker c.next.result _ _
    (λ e gives o h is at.
    now_is o h c.args.self.now c.args.p e
    (c.walk.ensures.next o.programs h c.args.program.now e is at.standing gives)
    (sym c.waiting.ensures ∙ c.if-waiting.false) at)
    c.next.ensures
