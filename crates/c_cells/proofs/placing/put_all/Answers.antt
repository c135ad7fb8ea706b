use Rattle.std.proofs.Common.{◌+◌, ◌++◌, ℕ, List, [], drop, map, ap, sym, ◌∙◌, arith}
use Rattle.std.specs.List.{flat_map}
use Rattle.std.proofs.lemmas.List.{drop_more}
use Rattle.c_calls.specs.Places.{filled}
use Rattle.c_cells.specs.Cells.{c_cell}
use Rattle.c_cells.specs.declared.vt_cell.VtCell.{VtCell}
use Rattle.vt_cells.specs.declared.cell.Cell.{Cell}
use Rattle.c_cells.proofs.placing.put_all.Goals as goal

pub loop-cell-init : goal.loop-cell-init
loop-cell-init c =
    let rows : List (List Cell) = c.args.grid.now.cells in
    let y : ℕ = c.loop-y.y in
    let more : List VtCell = flat_map (map c_cell) (drop (y + 1) rows) in
    ap (λ (cells : List Cell). filled c.loop-y.n (map c_cell cells ++ more) c.loop-y.places)
    (c.into_iter-cell-iterator.ensures.into_iter_gives ∙ c.row-cell-items.ensures)
    ∙ ap (λ (left : List (List Cell)). filled c.loop-y.n (flat_map (map c_cell) left) c.loop-y.places)
    (sym (drop_more rows y [] (omega (arith, c.loop-y-test.true, c.size-y-end.ensures.rows, c.stays_full.ensures.full.tall))))
    ∙ c.loop-y.invariant

pub loop-y-preserved : goal.loop-y-preserved
loop-y-preserved c =
    let more : List VtCell = flat_map (map c_cell) (drop (c.loop-y.y + 1) c.args.grid.now.cells) in
    sym
    (ap (λ (cells : List Cell). filled c.loop-cell.n (map c_cell cells ++ more) c.loop-cell.places) c.in-None.ensures.steps.0)
    ∙ c.loop-cell.invariant
