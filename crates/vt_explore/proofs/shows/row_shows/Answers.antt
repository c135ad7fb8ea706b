use Rattle.std.proofs.Common.{◌≡◌, List, [], length, arith, sym, ◌∙◌}
use Rattle.vt_cells.specs.declared.cell.Cell.{Cell}
use Rattle.vt_explore.proofs.Rows.{stands_here, stands_more}
use Rattle.vt_grid.specs.Grid.{row_at}
use Rattle.vt_explore.proofs.shows.row_shows.Goals as goal

pub returns-then-begins_at : goal.returns-then-begins_at
returns-then-begins_at c =
    let row : List Cell = row_at c.args.grid.now c.args.y in
    let wide : length row ≡ c.args.grid.now.cols =
    c.size-size.ensures.full.wide c.args.y [] (omega (arith, c.size-size.ensures.full.tall, c.requires)) in
    sym
    (sym c.loop-x.invariant
    ∙ stands_here c.args.text.now row c.loop-x.x (omega (arith, wide, c.size-size.ensures.cols, c.loop-x-test.true))
    (sym c.begins_at.ensures ∙ c.if-begins_at.true))

pub loop-x-preserved : goal.loop-x-preserved
loop-x-preserved c =
    sym (stands_more c.args.text.now (row_at c.args.grid.now c.args.y) c.loop-x.x (sym c.begins_at.ensures ∙ c.if-begins_at.false))
    ∙ c.loop-x.invariant
