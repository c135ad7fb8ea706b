use Rattle.std.proofs.lemmas.Result.{IfOk-weaker}
use Rattle.session_order.proofs.Starts.{opens_there}
use Rattle.session_order.proofs.sessions.start_of.Goals as goal

pub returns : goal.returns
returns c =
    IfOk-weaker c.start.result _ _
    (λ world is.
    opens_there c.args.s.now world c.config.result.now c.key_tables.result.now c.config.ensures.same
    c.key_tables.ensures is)
    c.start.ensures
