use Rattle.std.proofs.Common.{◌≡◌, ◌≤◌, sym, ap, ◌∙◌, subst}
use Rattle.session_text.proofs.Forgetting.{signals_go}
use Rattle.session_text.specs.Walks.{AreLeft, Place}
use Rattle.session_text.proofs.walk.Walk.keep_left.Goals as goal

pub returns-clause-stands : goal.returns-clause-stands
returns-clause-stands c = λ items made.
    signals_go items c.args.hooks.now c.args.self.now _ c.signals_left-self-inside.result made
    (subst (λ (w : Place). 1 ≤ w.signal) c.self.view_is c.self.invariant)
    (λ i. record (c.self.view_is i) { given = c.signals_left-self-inside.result; signal = 1 })
    (subst (λ (w : Place). AreLeft c.args.hooks.now w.given w.signal c.signals_left-self-inside.result) c.self.view_is
    c.signals_left-self-inside.ensures)
