use Rattle.std.proofs.Common.{Some, subst, sym, ap, ◌∙◌, arith}
use Rattle.vt_grid.proofs.Shown.{HasCellAt_shown}
use Rattle.vt_grid.specs.Grid.{GridView, HasCellAt}
use Rattle.vt_grid.proofs.grid.Grid.at.Goals as goal

pub returns : goal.returns
returns c =
    let rows = ap (λ (s : GridView). s.rows) c.self.view_is in
    let cols = ap (λ (s : GridView). s.cols) c.self.view_is in
    subst (λ (s : GridView). HasCellAt s c.args.y c.args.x c.at.result) c.self.view_is
    (HasCellAt_shown c.self.inside.store c.args.y c.args.x (omega (arith, rows)) (omega (arith, cols))
    c.stays_fit.ensures.fit
    ∙ ap Some (sym c.at.ensures))
