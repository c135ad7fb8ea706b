use Rattle.std.proofs.Common.{◌≡◌, ℕ, List, take, subst, sym, ◌∙◌}
use Rattle.screen_c.proofs.Cases.{at_none, at_some}
use Rattle.c_calls.specs.Codes.{OK}
use Rattle.screen_c.specs.Marks.{IsAtMark}
use Rattle.vt_canvas.specs.Screen.{IsWhole, Screen}
use Rattle.vt_redraw.specs.Near.{near}
use Rattle.vt_redraw.specs.Redraw.{Redraws}
use Rattle.screen_c.proofs.nearing.vt_lent_screen_redraw_changes_near.Goals.{in-None, in-Some}
use Rattle.screen_c.proofs.nearing.vt_lent_screen_redraw_changes_near.Goals as goal

pub returns-clause-again : goal.returns-clause-again
returns-clause-again c =
    elim c.match-get.branch [
      | in-None w ↦ at_none c.args.loan.now.value _ (sym c.take-lent.ensures.old.0 ∙ w.in-None.ensures)
      | in-Some w ↦
          at_some c.args.loan.now.value w.in-Some.screen.now
          (λ o.
          c.match-get.answer ≡ OK → (other : Screen) → IsWhole other → IsAtMark o.mark o.emu.state.grid other.grid
          → Redraws (near o.emu.state) other (take c.match-get.count c.match-get.text))
          (sym c.take-lent.ensures.old.0 ∙ w.in-Some.ensures)
          (λ ok other whole size.
          subst (λ (text : List ℕ). Redraws (near w.in-Some.screen.now.emu.state) other text)
          (λ i. take (sym w.count-is i) (sym w.text-is i))
          (w.redraw_changes_near-answer.ensures.again (sym w.answer-is ∙ ok) other whole size))
    ]
