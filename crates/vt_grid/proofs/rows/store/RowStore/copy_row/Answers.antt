use Rattle.std.proofs.Common.{◌≡◌, take, ap, ◌∙◌, arith}
use Rattle.vt_grid.specs.Grid.{row_at, with_run}
use Rattle.vt_grid.specs.Store.{grid_view}
use Rattle.vt_grid.proofs.rows.store.RowStore.copy_row.Goals as goal

pub returns-then-cols-size : goal.returns-then-cols-size
returns-then-cols-size c =
    let whole : c.args.self.now.cols ≡ c.args.cols = omega arith in
    c.copy_whole.ensures
    ∙ ap (λ n. with_run (grid_view c.args.self.now) c.args.y 0
    (take n (row_at (grid_view c.args.old.now) c.args.from))) whole
