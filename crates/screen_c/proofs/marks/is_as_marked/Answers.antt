use Rattle.std.proofs.Common.{◌&&◌, Bool, List, ap, sym, ◌∙◌}
use Rattle.screen_c.proofs.RowTests.{test_of_rows}
use Rattle.vt_cells.specs.declared.cell.Cell.{Cell}
use Rattle.vt_grid.specs.Grid.{row_at}
use Rattle.vt_redraw.specs.Cells.{are_same}
use Rattle.screen_c.proofs.marks.is_as_marked.Goals as goal

pub returns-then-has_same_size : goal.returns-then-has_same_size
returns-then-has_same_size c =
    let old : List Cell = row_at c.args.mark.now c.args.y in
    let row : List Cell = row_at c.args.grid.now c.args.y in
    test_of_rows c.is_row_same.result old row c.is_row_same.ensures
    ∙ ap (λ (same : Bool). same && are_same old row) (sym c.if-has_same_size.true ∙ c.has_same_size.ensures.test)
