use Rattle.std.proofs.Common.{◌≡◌, ℕ, List, take, subst, sym, ◌∙◌}
use Rattle.screen_c.proofs.Cases.{at_none, at_some}
use Rattle.c_calls.specs.Codes.{OK}
use Rattle.vt_canvas.specs.Screen.{IsWhole, Screen}
use Rattle.vt_redraw.specs.Near.{near}
use Rattle.vt_redraw.specs.Redraw.{IsSameSize, Redraws}
use Rattle.screen_c.proofs.nearing.vt_lent_screen_redraw_near.Goals.{in-None, in-Some}
use Rattle.screen_c.proofs.nearing.vt_lent_screen_redraw_near.Goals as goal

pub returns-clause-again : goal.returns-clause-again
returns-clause-again c =
    elim c.match-get.branch [
      | in-None w ↦ at_none c.args.loan.now.value _ (sym c.take-lent.ensures.old.0 ∙ w.in-None.ensures)
      | in-Some w ↦
          at_some c.args.loan.now.value w.in-Some.screen.now
          (λ o.
          c.match-get.answer ≡ OK → (other : Screen) → IsWhole other → IsSameSize other.grid o.emu.state.grid
          → Redraws (near o.emu.state) other (take c.match-get.count c.match-get.text))
          (sym c.take-lent.ensures.old.0 ∙ w.in-Some.ensures)
          (λ ok other whole size.
          subst (λ (text : List ℕ). Redraws (near w.in-Some.screen.now.emu.state) other text)
          (λ i. take (sym w.count-is i) (sym w.text-is i))
          (w.redraw_near-answer.ensures.again (sym w.answer-is ∙ ok) other whole size))
    ]
