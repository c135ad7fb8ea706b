use Rattle.std.proofs.Common.{◌≡◌, IfOk, ap, subst}
use Rattle.vt_canvas.specs.Screen.{IsWhole, Screen}
use Rattle.vt_redraw.specs.Redraw.{Redraws}
use Rattle.vt_redraw.proofs.drawing.redraw_changes_near.Goals as goal

pub returns-clause-again : goal.returns-clause-again
returns-clause-again c =
    subst
    (λ (t : Screen).
    IfOk c.redraw_changes-2.result
    (λ text. (other : Screen) → IsWhole other → other.grid ≡ c.args.old.now → Redraws t other text.bytes))
    (ap (λ m. m.state) c.in_ok-shown.ensures.screen) c.redraw_changes-2.ensures.again
