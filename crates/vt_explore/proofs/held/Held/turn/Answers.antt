use Rattle.std.proofs.Common.{◌≡◌, ℕ, List, [], ◌∷◌, ◌++◌, arith, sym, ap, ◌∙◌, subst}
use Rattle.vt_explore.proofs.Holding.{turned}
use Rattle.vt_explore.proofs.Positions.{length_turns}
use Rattle.vt_explore.specs.Held.{HeldState}
use Rattle.vt_explore.specs.Positions.{IsAfter}
use Rattle.session_order.specs.Ends.{Setup}
use Rattle.session_order.specs.Orders.{history_of}
use Rattle.session_order.specs.Sessions.{setup_of}
use Rattle.vt_explore.proofs.held.Held.turn.Goals as goal

pub returns-clause-at : goal.returns-clause-at
returns-clause-at c = λ at.
    let o : Setup = setup_of c.args.s.now in
    let order : List ℕ = c.args.self.now.order in
    let few = length_turns o order [] in
    let seen : c.deref_mut.result.now ≡ c.args.self.now.position =
    c.deref_mut.ensures.value ∙ ap (λ (held : HeldState). held.position) c.self.view_is in
    turned o order c.push.new.self c.args.n c.turn_of.new.self
    (c.in_ok-push.ensures ∙ ap (λ (held : HeldState). held.order ++ c.args.n ∷ []) c.self.view_is)
    (c.in_ok-turn_of.ensures (history_of o order) (omega (arith, few, c.requires))
    (subst (IsAfter o (history_of o order)) (sym seen) at))
