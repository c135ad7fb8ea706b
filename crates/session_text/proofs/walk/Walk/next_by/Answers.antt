use Rattle.std.proofs.Common.{List, subst, sym, ap, ◌∙◌}
use Rattle.sig_hooks.specs.declared.act.Act.{Act}
use Rattle.session_text.specs.Walks.{HasActs, Place}
use Rattle.session_text.specs.declared.program.Program.TheVariants as program
use Rattle.session_text.proofs.Walks.{ahead_next, stands_over, stands_waiting}
use Rattle.session_text.proofs.walk.Walk.next_by.Goals as goal

pub returns-then-self : goal.returns-then-self
returns-then-self g c =
    λ made s.
    stands_over _ _ made s (ap (λ (w : Place). w.over) (sym c.self.view_is) ∙ c.if-self.true)

pub returns-then-self-2 : goal.returns-then-self-2
returns-then-self-2 g c =
    λ made s.
    stands_waiting _ _ made s (ap (λ (w : Place). w.over) (sym c.self.view_is) ∙ c.if-self.false)
    (ap (λ (w : Place). w.waiting) (sym c.self.view_is) ∙ c.if-self-2.true)

pub returns-in-Script : goal.returns-in-Script
returns-in-Script g c =
    ahead_next c.args.p.now (program.Script c.in-Script.items c.args.h.now) c.args.self.now c.call_ahead.result
    (ap (λ (w : Place). w.over) (sym c.self.view_is) ∙ c.if-self.false)
    (ap (λ (w : Place). w.waiting) (sym c.self.view_is) ∙ c.if-self-2.false)
    (c.in-Script.is ∙ ap (λ (table : List Act). program.Script c.in-Script.items table)
    (subst (λ p. HasActs p c.args.h.now) c.in-Script.is c.requires)) c.call_ahead.ensures
