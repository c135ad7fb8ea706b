use Rattle.std.proofs.Common.{◌≤◌, List, ℕ, length, sym, subst, ap, ◌∙◌}
use Rattle.vt_redraw.proofs.Stated.{redraws_are_short, screens_redraw-changes}
use Rattle.vt_redraw.specs.Lengths.{redraw_most}
use Rattle.vt_grid.specs.Grid.{GridView}
use Rattle.vt_redraw.specs.Redraw.{IsSameSize, Redraws, changes_of}
use Rattle.vt_redraw.proofs.drawing.redraw_changes.Goals as goal

pub returns-clause-again : goal.returns-clause-again
returns-clause-again c =
    λ other whole same.
    let size : IsSameSize other.grid c.args.emu.now.state.grid =
    subst (λ (g : GridView). IsSameSize g c.args.emu.now.state.grid) (sym same) c.requires.size in
    subst (λ (text : List ℕ). Redraws c.args.emu.now.state other text)
    (ap (λ (g : GridView). changes_of g c.args.emu.now.state) same ∙ sym c.in_ok-text.ensures)
    (screens_redraw-changes c.args.emu.now.state other c.stays_stored.ensures whole size c.requires.redrawable)

pub returns-clause-short : goal.returns-clause-short
returns-clause-short c =
    let s = c.args.emu.now.state in
    subst (λ (text : List ℕ). length text ≤ redraw_most s.grid.rows s.grid.cols) (sym c.in_ok-text.ensures)
    ((redraws_are_short s c.stays_stored.ensures c.requires.redrawable).1 c.args.old.now)
