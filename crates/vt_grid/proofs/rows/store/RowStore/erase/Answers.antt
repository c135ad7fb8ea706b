use Rattle.std.proofs.Common.{◌-◌, replicate, ap, ◌∙◌, arith}
use Rattle.vt_grid.specs.Grid.{with_erased, with_run}
use Rattle.vt_grid.specs.Store.{grid_view}
use Rattle.vt_grid.proofs.rows.store.RowStore.erase.Goals as goal

pub returns-then-x1-last : goal.returns-then-x1-last
returns-then-x1-last c =
    c.cut_from.ensures
    ∙ ap (λ n. with_erased (grid_view c.args.self.now) c.args.y c.args.x0 n c.args.c) (omega arith)

pub returns-else-x1-last : goal.returns-else-x1-last
returns-else-x1-last c =
    c.fill.ensures
    ∙ ap (λ n. with_run (grid_view c.args.self.now) c.args.y c.args.x0 (replicate n c.args.c)) (omega arith)
