use Rattle.std.proofs.Common.{sym, subst}
use Rattle.std.proofs.lemmas.Result.{on_ok_weaker}
use Rattle.vt_explore.proofs.Calls.{caller_none, caller_some, turn_none}
use Rattle.vt_explore.proofs.Nevers.{now_past}
use Rattle.vt_explore.specs.Positions.{IsAfter}
use Rattle.session_order.specs.Ends.{Setup}
use Rattle.session_order.specs.Orders.{after_turn}
use Rattle.session_order.specs.Sessions.{setup_of}
use Rattle.vt_explore.proofs.position.Position.turn_of.Goals as goal

pub returns-in_default : goal.returns-in_default
returns-in_default c = λ h few at.
    turn_none (setup_of c.args.s.now) h c.args.self.now c.args.n
    (now_past (setup_of c.args.s.now) h c.args.n c.session_laws.ensures.programs
    (caller_none c.args.n c.from.result c.new.result c.new.ensures c.from.ensures c.in_default.is))
    at

pub returns : goal.returns
returns c =
    let o : Setup = setup_of c.args.s.now in
    on_ok_weaker c.turn.result
    (λ gives h few at.
    subst (λ p. IsAfter o (after_turn o p h) c.turn.new.self)
    (caller_some c.args.n c.from.result c.in-Some.p c.new.result c.new.ensures c.from.ensures c.in-Some.is)
    (gives o h (sym c.programs.ensures.same) few at))
    c.turn.ensures
