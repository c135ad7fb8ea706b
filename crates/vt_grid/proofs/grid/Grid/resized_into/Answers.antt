use Rattle.std.proofs.Common.{ap, ◌∙◌, arith}
use Rattle.vt_grid.proofs.Split.{rows_whole}
use Rattle.vt_grid.specs.Grid.{GridView, resized_grid}
use Rattle.vt_grid.proofs.grid.Grid.resized_into.Goals as goal

pub returns-clause-grid : goal.returns-clause-grid
returns-clause-grid c =
    c.replace.ensures.after
    ∙ c.copy_cells.ensures
    ∙ ap (λ (s : GridView). resized_grid s c.args.fresh c.args.skip)
    (rows_whole c.args.self.now c.size-cols.result.cols c.size-cols.ensures.full (omega (arith, c.size-cols.ensures.cols)))
