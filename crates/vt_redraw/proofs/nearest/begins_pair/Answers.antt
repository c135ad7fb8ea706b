use Rattle.std.proofs.Common.{◌≡◌, ◌&&◌, [], Bool, List, drop, length, ap, sym, ◌∙◌, arith}
use Rattle.std.specs.Prelude.{not}
use Rattle.vt_cells.specs.declared.cell.Cell.{Cell}
use Rattle.vt_grid.specs.Grid.{row_at}
use Rattle.vt_redraw.proofs.Nearing.{no_pair, pair_here}
use Rattle.vt_redraw.specs.Nearing.{begins_pair}
use Rattle.vt_redraw.proofs.nearest.begins_pair.Goals as goal

pub returns-then-next-cols : goal.returns-then-next-cols
returns-then-next-cols c =
    let row : List Cell = row_at c.args.g.now c.args.y in
    let wide : length row ≡ c.args.g.now.cols =
    c.size-cols.ensures.full.wide c.args.y [] (omega (arith, c.requires.row, c.size-cols.ensures.full.tall)) in
    sym
    (ap (λ (b : Bool). not b && begins_pair (drop c.args.x row)) c.if-is_half.false
    ∙ no_pair row c.args.x (omega (arith, wide, c.size-cols.ensures.cols, c.if-next-cols.true)))

pub returns : goal.returns
returns c =
    let row : List Cell = row_at c.args.g.now c.args.y in
    c.is_pair.ensures
    ∙ sym (pair_here row c.args.x c.at.result c.at-2.result c.at.ensures c.at-2.ensures)
    ∙ ap (λ (b : Bool). not b && begins_pair (drop c.args.x row)) (sym c.if-is_half.false)
