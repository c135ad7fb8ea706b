use Rattle.std.proofs.Common.{◌≤◌, List, ℕ, length, sym, subst}
use Rattle.vt_redraw.proofs.Stated.{redraws_are_short, screens_redraw-screens}
use Rattle.vt_redraw.specs.Lengths.{redraw_most}
use Rattle.vt_redraw.specs.Redraw.{Redraws}
use Rattle.vt_redraw.proofs.drawing.redraw.Goals as goal

pub returns-clause-again : goal.returns-clause-again
returns-clause-again c =
    λ other whole size.
    subst (λ (text : List ℕ). Redraws c.args.emu.now.state other text) (sym c.in_ok-text.ensures)
    (screens_redraw-screens c.args.emu.now.state other c.stays_stored.ensures whole size c.requires)

pub returns-clause-short : goal.returns-clause-short
returns-clause-short c =
    let s = c.args.emu.now.state in
    subst (λ (text : List ℕ). length text ≤ redraw_most s.grid.rows s.grid.cols) (sym c.in_ok-text.ensures)
    (redraws_are_short s c.stays_stored.ensures c.requires).0
