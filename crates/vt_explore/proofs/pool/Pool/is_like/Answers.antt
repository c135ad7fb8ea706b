use Rattle.std.proofs.Common.{subst}
use Rattle.vt_explore.specs.Alike.{AreAlike}
use Rattle.session_order.specs.Ends.{Setup}
use Rattle.session_order.specs.Orders.{history_of}
use Rattle.session_order.specs.Sessions.{setup_of}
use Rattle.vt_explore.proofs.pool.Pool.is_like.Goals as goal

pub returns-in-Some-clause-like : goal.returns-in-Some-clause-like
returns-in-Some-clause-like c = λ yes.
    let o : Setup = setup_of c.args.s.now in
    subst (λ turns. AreAlike o (history_of o turns) (history_of o c.args.other.now.order)) c.in-Some.ensures.order
    (c.is_like.ensures yes o c.session_laws.ensures.programs (c.in-Some.ensures.at o c.requires.pool) c.requires.at)

pub returns-clause-like : goal.returns-clause-like
returns-clause-like c = λ yes.
    let o : Setup = setup_of c.args.s.now in
    subst (λ turns. AreAlike o (history_of o turns) (history_of o c.args.other.now.order)) c.in_ok-held.ensures.order
    (c.is_like-is_like.ensures yes o c.session_laws.ensures.programs c.in_ok-held.ensures.at c.requires.at)
