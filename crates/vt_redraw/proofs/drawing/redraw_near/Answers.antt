use Rattle.std.proofs.Common.{IfOk, ap, subst, sym, ◌∙◌}
use Rattle.vt_canvas.specs.Screen.{IsWhole, Screen}
use Rattle.vt_redraw.proofs.Stated.{near_is_drawn-exact}
use Rattle.vt_redraw.specs.Redraw.{IsSameSize, Redraws}
use Rattle.vt_redraw.proofs.drawing.redraw_near.Goals as goal

pub returns-then-redrawable-clause-again : goal.returns-then-redrawable-clause-again
returns-then-redrawable-clause-again c =
    let s : Screen = c.args.emu.now.state in
    subst
    (λ (t : Screen).
    IfOk c.redraw.result (λ text. (other : Screen) → IsWhole other → IsSameSize other.grid s.grid → Redraws t other text.bytes))
    (sym (near_is_drawn-exact s (sym c.redrawable.ensures ∙ c.if-redrawable.true))) c.redraw.ensures.again

pub returns-clause-again : goal.returns-clause-again
returns-clause-again c =
    subst
    (λ (t : Screen).
    IfOk c.redraw-2.result (λ text. (other : Screen) → IsWhole other → IsSameSize other.grid t.grid → Redraws t other text.bytes))
    (ap (λ m. m.state) c.in_ok-shown.ensures.screen) c.redraw-2.ensures.again
