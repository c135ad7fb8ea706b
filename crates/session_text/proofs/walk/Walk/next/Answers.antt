use Rattle.std.proofs.Common.{[], sym, ap, ◌∙◌}
use Rattle.session_text.specs.Walks.{Place, ahead}
use Rattle.session_text.specs.declared.program.Program.{Program}
use Rattle.session_text.proofs.Walks.{ahead_next, stands_ahead, stands_over, stands_waiting}
use Rattle.session_text.proofs.walk.Walk.next.Goals as goal

pub returns-then-self : goal.returns-then-self
returns-then-self c =
    λ made s.
    stands_over _ _ made s (ap (λ (w : Place). w.over) (sym c.self.view_is) ∙ c.if-self.true)

pub returns-then-self-2 : goal.returns-then-self-2
returns-then-self-2 c =
    λ made s.
    stands_waiting _ _ made s (ap (λ (w : Place). w.over) (sym c.self.view_is) ∙ c.if-self.false)
    (ap (λ (w : Place). w.waiting) (sym c.self.view_is) ∙ c.if-self-2.true)

pub returns-in-Script : goal.returns-in-Script
returns-in-Script c =
    ahead_next c.args.p.now _ c.args.self.now c.call_ahead.result
    (ap (λ (w : Place). w.over) (sym c.self.view_is) ∙ c.if-self.false)
    (ap (λ (w : Place). w.waiting) (sym c.self.view_is) ∙ c.if-self-2.false)
    c.in-Script.is c.call_ahead.ensures

pub returns-in-Keys : goal.returns-in-Keys
returns-in-Keys c =
    λ made s.
    sym c.scan_ahead.ensures
    ∙ ap (λ (p : Program). ahead p c.args.self.now []) (sym c.in-Keys.is)
    ∙ stands_ahead _ _ made s (ap (λ (w : Place). w.over) (sym c.self.view_is) ∙ c.if-self.false)
    (ap (λ (w : Place). w.waiting) (sym c.self.view_is) ∙ c.if-self-2.false)
