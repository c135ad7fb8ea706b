use Rattle.std.proofs.Common.{ap, ◌∙◌, arith}
use Rattle.vt_grid.proofs.Shown.{IsFull_shown, with_run_one}
use Rattle.vt_grid.specs.Grid.{GridView, with_cell}
use Rattle.vt_grid.specs.Store.{grid_view}
use Rattle.vt_grid.proofs.grid.Grid.put.Goals as goal

pub returns : goal.returns
returns c =
    let rows = ap (λ (s : GridView). s.rows) c.self.view_is in
    let cols = ap (λ (s : GridView). s.cols) c.self.view_is in
    c.put_run.ensures
    ∙ with_run_one (grid_view c.self.inside.store) c.args.y c.args.x c.args.c (omega (arith, rows))
    (omega (arith, cols)) (IsFull_shown c.self.inside.store c.stays_fit.ensures.fit)
    ∙ ap (λ (s : GridView). with_cell s c.args.y c.args.x c.args.c) c.self.view_is
