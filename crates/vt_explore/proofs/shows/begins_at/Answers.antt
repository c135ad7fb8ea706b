use Rattle.std.proofs.Common.{◌≡◌, List, [], length, arith, sym, ◌∙◌}
use Rattle.vt_cells.specs.declared.cell.Cell.{Cell}
use Rattle.vt_explore.proofs.Rows.{begins_more, begins_other, begins_past}
use Rattle.vt_grid.specs.Grid.{row_at}
use Rattle.vt_explore.proofs.shows.begins_at.Goals as goal

pub returns-then-size-at : goal.returns-then-size-at
returns-then-size-at c =
    let row : List Cell = row_at c.args.grid.now c.args.y in
    let wide : length row ≡ c.args.grid.now.cols =
    c.size-size.ensures.full.wide c.args.y [] (omega (arith, c.size-size.ensures.full.tall, c.requires.row)) in
    sym
    (sym c.loop-code.invariant.1
    ∙ begins_past c.args.text.now row c.loop-code.code-index c.loop-code.at c.loop-code-test.true
    (omega (arith, wide, c.size-size.ensures.cols, c.if-size-at.true)))

pub returns-then-at-from : goal.returns-then-at-from
returns-then-at-from c =
    sym
    (sym c.loop-code.invariant.1
    ∙ begins_other c.args.text.now (row_at c.args.grid.now c.args.y) c.loop-code.code-index c.loop-code.at c.at.result
    c.loop-code-test.true c.at.ensures
    (λ same. let no : ⊥ = omega (arith, same, c.if-at-from.true, c.from.ensures) in no))

pub loop-code-preserved : goal.loop-code-preserved
loop-code-preserved c = (
  omega (arith, c.loop-code.invariant.0),
  sym
      (begins_more c.args.text.now (row_at c.args.grid.now c.args.y) c.loop-code.code-index c.loop-code.at c.at.result
      c.loop-code-test.true c.at.ensures (omega (arith, c.if-at-from.false, c.from.ensures)))
      ∙ c.loop-code.invariant.1,
)
