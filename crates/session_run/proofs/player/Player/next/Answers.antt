use Rattle.std.proofs.Common.{sym, ◌∙◌}
use Rattle.std.proofs.lemmas.Result.{IfOk-weaker}
use Rattle.session_run.proofs.Turns.{now_is}
use Rattle.session_run.proofs.player.Player.next.Goals as goal

pub returns : goal.returns
returns g c = IfOk-weaker c.next_call.result _ _
    (λ e gives o t there at.
    now_is o t c.args.self.now c.args.p e
    (c.walk.ensures.next o.programs t.history c.args.caller.now e there at.standing gives)
    (sym c.waiting.ensures ∙ c.if-waiting.false) at)
    c.next_call.ensures
