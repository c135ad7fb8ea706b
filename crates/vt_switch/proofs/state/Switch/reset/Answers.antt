use Rattle.std.proofs.Common.{◌≡◌, ◌∙◌, ℕ, sym, subst, ap, set, Some}
use Rattle.std.specs.Prelude.{◌==◌}
use Rattle.vt_switch.proofs.Sound.{fallen, reset_sound}
use Rattle.vt_switch.specs.Display.{Display, IsSound, fresh}
use Rattle.vt_switch.specs.contracts.state.Switch.{the_view}
use Rattle.vt_switch.proofs.state.Switch.reset.Goals as goal

pub invariant_of-self : goal.invariant_of-self
invariant_of-self c =
    let n = c.args.c in
    let before : Display = c.args.self.now in
    let front : c.self.inside.front ≡ before.front = ap (λ (d : Display). d.front) c.self.view_is in
    let fell : Display = the_view c.self-2.inside in
    subst (λ (k : ℕ). IsSound (record fell { consoles = set fell.consoles k (Some fresh) }))
    (sym (c.from.ensures ∙ c.get.ensures.same))
    (reset_sound fell n c.self-2.invariant
    (fallen (λ d. n == d.front) before fell c.args.p c.eq.result c.fall-hop.result
    (ap (λ k. n == k) (sym front) ∙ sym c.eq.ensures) c.fall-hop.ensures.answer (c.self-2.view_is ∙ c.fall-hop.ensures.state)
    (λ front. ap (λ (d : Display). d.pending) c.self-2.view_is ∙ c.fall-hop.ensures.nothing front)))
