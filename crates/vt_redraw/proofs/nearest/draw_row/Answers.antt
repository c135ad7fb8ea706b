use Rattle.std.proofs.Common.{◌≡◌, ◌+◌, ◌<◌, ℕ, List, [], ◌∷◌, drop, length, take, get_or, ap, subst, sym, ◌∙◌, arith}
use Rattle.std.specs.Prelude.{All}
use Rattle.std.proofs.lemmas.List.{take_all, take_more}
use Rattle.std.proofs.lemmas.List.Elements.{All-append, All-cons, All-nil}
use Rattle.vt_cells.specs.declared.cell.Cell.{Cell}
use Rattle.vt_grid.specs.Grid.{GridView, row_at, with_cell, with_row}
use Rattle.vt_redraw.proofs.Nearing.{cell_in_row, mixed, mixed_more, rest_is}
use Rattle.vt_redraw.specs.Near.{near_row}
use Rattle.vt_redraw.specs.Nearing.{near_from}
use Rattle.vt_redraw.proofs.nearest.draw_row.Goals as goal

pub loop-x-preserved : goal.loop-x-preserved
loop-x-preserved c =
    let x : ℕ = c.loop-x.x in
    let row : List Cell = row_at c.args.g.now c.args.y in
    let news : List Cell = near_row row in
    let start : GridView = c.args.shown.now in
    let olds : List Cell = row_at start c.args.y in
    let rest : List Cell = near_from c.draw_cell-is_half.result (drop (x + 1) row) in
    let cell : Cell = c.draw_cell-is_half.ensures.cell.0 in
    let found : drop x news ≡ cell ∷ rest = c.loop-x.invariant.rest ∙ c.draw_cell-is_half.ensures.cell.2 in
    let wide : length row ≡ c.args.g.now.cols =
    c.size-cols.ensures.full.wide c.args.y [] (omega (arith, c.requires.row, c.size-cols.ensures.full.tall)) in
    let same : length olds ≡ start.cols =
    c.stays_full.ensures.full.wide c.args.y [] (omega (arith, c.requires.row, c.requires.size.0, c.stays_full.ensures.full.tall)) in
    let within : x < length row = omega (arith, wide, c.loop-x-test.true, c.size-cols.ensures.cols) in
    record {
      within = omega (arith, c.loop-x-test.true, c.size-cols.ensures.cols);
      rest = rest_is x news cell rest found;
      done =
          c.draw_cell-is_half.ensures.cell.1
          ∙ ap (λ (g : GridView). with_cell g c.args.y x cell) c.loop-x.invariant.done
          ∙ cell_in_row start c.args.y x (mixed x news olds) cell
          (omega (arith, c.requires.row, c.requires.size.0, c.stays_full.ensures.full.tall))
          ∙ ap (with_row start c.args.y)
          (sym (mixed_more x news olds cell rest found (omega (arith, within, wide, same, c.requires.size.1))));
      bytes =
          subst (All (λ (d : Cell). d.attr < 256)) (sym (take_more row x cell within))
          (All-append (λ (d : Cell). d.attr < 256) (take x row) (get_or row x cell ∷ []) c.loop-x.invariant.bytes
          (All-cons (λ (d : Cell). d.attr < 256) (get_or row x cell) [] (c.draw_cell-is_half.ensures.byte cell) (All-nil (λ (d : Cell). d.attr < 256))));
    }

pub returns-clause-bytes : goal.returns-clause-bytes
returns-clause-bytes c =
    let row : List Cell = row_at c.args.g.now c.args.y in
    let wide : length row ≡ c.args.g.now.cols =
    c.size-cols.ensures.full.wide c.args.y [] (omega (arith, c.requires.row, c.size-cols.ensures.full.tall)) in
    subst (All (λ (d : Cell). d.attr < 256))
    (take_all c.loop-x.x row (omega (arith, wide, c.loop-x-test.false, c.size-cols.ensures.cols)))
    c.loop-x.invariant.bytes
