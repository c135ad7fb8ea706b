use Rattle.std.proofs.Common.{◌≡◌, ◌+◌, ◌<◌, ℕ, List, [], ◌∷◌, drop, length, map, replicate, set, take, get_or, ap, subst, sym, ◌∙◌, arith}
use Rattle.std.specs.Prelude.{All}
use Rattle.std.proofs.lemmas.List.{drop_more, get_or-map, length-map, length-replicate, take_all, take_more}
use Rattle.std.proofs.lemmas.List.Elements.{All-append, All-cons, All-nil}
use Rattle.vt_canvas.specs.Screen.{start_blank}
use Rattle.vt_cells.specs.declared.cell.Cell.{Cell}
use Rattle.vt_grid.specs.Grid.{GridView, with_row}
use Rattle.vt_redraw.proofs.Nearing.{mixed, mixed_more}
use Rattle.vt_redraw.specs.Near.{near_row}
use Rattle.vt_redraw.proofs.nearest.near_grid.Goals as goal

pub loop-y-preserved : goal.loop-y-preserved
loop-y-preserved c =
    let g : GridView = c.args.g.now in
    let y : ℕ = c.loop-y.y in
    let rows : List (List Cell) = g.cells in
    let news : List (List Cell) = map near_row rows in
    let olds : List (List Cell) = replicate g.rows (replicate g.cols start_blank) in
    let row : List Cell = get_or rows y [] in
    let within : y < length rows = omega (arith, c.loop-y-test.true, c.size-y-end.ensures.rows, c.size-y-end.ensures.full.tall) in
    let found : drop y news ≡ near_row row ∷ drop (y + 1) news =
    drop_more news y [] (omega (arith, within, length-map rows near_row))
    ∙ ap (λ (r : List Cell). r ∷ drop (y + 1) news) (get_or-map near_row rows y [] [] within) in
    let grown : mixed (y + 1) news olds ≡ set (mixed y news olds) y (near_row row) =
    mixed_more y news olds (near_row row) (drop (y + 1) news) found
    (omega (arith, within, length-replicate g.rows (replicate g.cols start_blank), c.size-y-end.ensures.full.tall)) in
    record {
      done =
          c.draw_row.ensures.row
          ∙ ap (λ (s : GridView). with_row s y (near_row row)) c.loop-y.invariant.done
          ∙ (λ i. record g { cells = sym grown i });
      bytes =
          subst (All (All (λ (d : Cell). d.attr < 256))) (sym (take_more rows y [] within))
          (All-append (All (λ (d : Cell). d.attr < 256)) (take y rows) (row ∷ []) c.loop-y.invariant.bytes
          (All-cons (All (λ (d : Cell). d.attr < 256)) row [] c.draw_row.ensures.bytes (All-nil (All (λ (d : Cell). d.attr < 256)))));
    }

pub returns-clause-bytes : goal.returns-clause-bytes
returns-clause-bytes c =
    subst (All (All (λ (d : Cell). d.attr < 256)))
    (take_all c.loop-y.y c.args.g.now.cells (omega (arith, c.loop-y-test.false, c.size-y-end.ensures.rows, c.size-y-end.ensures.full.tall)))
    c.loop-y.invariant.bytes
