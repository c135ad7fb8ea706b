use Rattle.std.proofs.Common.{◌≡◌, ◌∙◌, List, Option, sym, subst, ap}
use Rattle.vt_switch.proofs.Sound.{fallen, leave_sound}
use Rattle.vt_switch.specs.Calls.{owns}
use Rattle.vt_switch.specs.Display.{Display, IsSound}
use Rattle.vt_switch.specs.contracts.state.Switch.{the_view}
use Rattle.vt_switch.specs.declared.console.Console.{Console}
use Rattle.vt_switch.proofs.state.Switch.leave.Goals as goal

pub invariant_of-self : goal.invariant_of-self
invariant_of-self c =
    let p = c.args.p in
    let before : Display = c.args.self.now in
    let front : c.self.inside.front ≡ before.front = ap (λ (d : Display). d.front) c.self.view_is in
    let fell : Display = the_view c.self-2.inside in
    subst (λ (consoles : List (Option Console)). IsSound (record fell { consoles = consoles }))
    (sym c.give_back.ensures)
    (leave_sound fell p c.self-2.invariant
    (fallen (λ d. owns d p d.front) before fell p c.owns.result c.fall-hop.result
    (ap (owns before p) (sym front) ∙ sym c.owns.ensures) c.fall-hop.ensures.answer (c.self-2.view_is ∙ c.fall-hop.ensures.state)
    (λ front. ap (λ (d : Display). d.pending) c.self-2.view_is ∙ c.fall-hop.ensures.nothing front)))
