use Rattle.std.proofs.Common.{sym, subst}
use Rattle.vt_explore.specs.Held.{IsHeld}
use Rattle.session_order.specs.Sessions.{setup_of}
use Rattle.vt_explore.proofs.pool.Pool.mark.Goals as goal

pub leave-requires-clause-at : goal.leave-requires-clause-at
leave-requires-clause-at c = subst (IsHeld (setup_of c.args.s.now)) (sym c.in_ok-copy.ensures.same) c.requires.at
