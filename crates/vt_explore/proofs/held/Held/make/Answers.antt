use Rattle.std.proofs.Common.{◌≡◌, ℕ, List, [], arith, sym, ap, ◌∙◌, subst}
use Rattle.std.proofs.lemmas.Result.{IfOk-weaker}
use Rattle.vt_explore.proofs.Positions.{length_turns}
use Rattle.vt_explore.specs.Held.{HeldState}
use Rattle.vt_explore.specs.Positions.{IsAfter}
use Rattle.session_order.specs.Orders.{history_of}
use Rattle.vt_explore.proofs.held.Held.make.Goals as goal

pub returns-clause-made : goal.returns-clause-made
returns-clause-made c = IfOk-weaker c.make.result _ _
    (λ reply gives o is now at.
    let order : List ℕ = c.args.self.now.order in
    let few = length_turns o order [] in
    let seen : c.deref_mut.result.now ≡ c.args.self.now.position =
    c.deref_mut.ensures.value ∙ ap (λ (held : HeldState). held.position) c.self.view_is in
    gives o (history_of o order) is (omega (arith, few, c.requires)) now
    (subst (IsAfter o (history_of o order)) (sym seen) at))
    c.make.ensures
