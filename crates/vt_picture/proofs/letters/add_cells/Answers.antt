use Rattle.std.proofs.Common.{List, drop, take}
use Rattle.vt_cells.specs.declared.cell.Cell.{Cell}
use Rattle.vt_grid.specs.Grid.{row_at}
use Rattle.vt_picture.specs.Characters.{cell_text}
use Rattle.vt_picture.proofs.Texts.{cells_more, run_cell}
use Rattle.vt_picture.proofs.letters.add_cells.Goals as goal

pub loop-i-preserved : goal.loop-i-preserved
loop-i-preserved c =
    let row : List Cell = row_at c.args.g.now c.args.y in
    let i = c.loop-i.i in
    cells_more cell_text (take c.args.count (drop c.args.x row)) i c.at.result c.loop-i.text.bytes c.add_cell.new.text.bytes _
    (run_cell row c.args.x c.args.count i c.at.result c.loop-i-test.true c.at.ensures) c.in_ok-add_cell.ensures
    c.loop-i.invariant
