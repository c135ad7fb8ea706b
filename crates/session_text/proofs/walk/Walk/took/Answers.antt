use Rattle.std.proofs.Common.{sym, ap, ◌∙◌}
use Rattle.vt_events.specs.Waits.{is_wait}
use Rattle.session_text.specs.Walks.{Place}
use Rattle.session_text.proofs.Walks.{moved_stands, moves_stands, wait_moves}
use Rattle.session_text.proofs.walk.Walk.took.Goals as goal

pub returns-then-self-2 : goal.returns-then-self-2
returns-then-self-2 c =
    λ made e.
    moves_stands c.args.p.now c.args.self.now _ c.args.r.now made e
    (wait_moves c.args.p.now c.args.self.now _ c.args.r.now
    (ap (λ (w : Place). w.over) (sym c.self.view_is) ∙ c.if-self.false)
    (ap (λ (w : Place). w.waiting) (sym c.self.view_is) ∙ c.if-self-2.true)
    (c.answered.ensures
    ∙ (λ i. record c.args.self.now { waiting = is_wait c.args.r.now; over = c.is_gone.ensures i })))

pub returns-in-Keys : goal.returns-in-Keys
returns-in-Keys c =
    moved_stands c.args.p.now _ c.args.self.now _ c.args.r.now
    (ap (λ (w : Place). w.over) (sym c.self.view_is) ∙ c.if-self.false)
    (ap (λ (w : Place). w.waiting) (sym c.self.view_is) ∙ c.if-self-2.false) c.in-Keys.is
    c.took_scan.ensures

pub returns-in-Script : goal.returns-in-Script
returns-in-Script c =
    moved_stands c.args.p.now _ c.args.self.now _ c.args.r.now
    (ap (λ (w : Place). w.over) (sym c.self.view_is) ∙ c.if-self.false)
    (ap (λ (w : Place). w.waiting) (sym c.self.view_is) ∙ c.if-self-2.false) c.in-Script.is
    c.took_call.ensures
