use Rattle.std.proofs.Common.{◌≡◌, ℕ, ◌<◌, ◌++◌, List, [], ap, sym, ◌∙◌, add-one, arith, drop, length, map, set, take}
use Rattle.std.proofs.lemmas.List.{get_or-map, length-map, length-set}
use Rattle.std.proofs.lemmas.Option.{get_or_from_slice_get}
use Rattle.c_calls.proofs.Prefixes.{written_more}
use Rattle.c_cells.specs.Cells.{c_cell}
use Rattle.c_cells.specs.declared.vt_cell.VtCell.{VtCell}
use Rattle.vt_cells.specs.declared.cell.Cell.{Cell}
use Rattle.vt_grid.specs.Grid.{row_at}
use Rattle.c_cells.proofs.placing.put_cells.Goals as goal

pub loop-n-preserved : goal.loop-n-preserved
loop-n-preserved c =
    let row : List Cell = row_at c.args.grid.now c.args.y in
    let items : List VtCell = map c_cell row in
    let start : List VtCell = c.args.places.now in
    let n : ℕ = c.loop-n.n in
    let bound : c.min-count.result ≡ _ = c.min-count.ensures in
    let wide : length row ≡ c.args.grid.now.cols =
    c.size.ensures.full.wide c.args.y [] (omega (arith, c.requires, c.size.ensures.full.tall)) in
    let within : n < length row =
    omega (arith, c.loop-n-test.true, bound, wide, c.from.ensures, c.size.ensures.cols) in
    record {
      within = omega (arith, c.loop-n-test.true);
      size = length-set c.loop-n.places n c.of.result ∙ c.loop-n.invariant.size;
      places =
          ap (λ (places : List VtCell). set places n c.of.result) c.loop-n.invariant.places
          ∙ written_more items start n c.of.result c.of.result
          (omega (arith, within, length-map row c_cell))
          (omega (arith, c.loop-n-test.true, bound, c.loop-n.invariant.size))
          (c.of.ensures
          ∙ ap c_cell (sym (get_or_from_slice_get row n c.at.result c.at.result c.at.ensures))
          ∙ sym (get_or-map c_cell row n c.at.result c.of.result within))
          ∙ ap (λ (k : ℕ). take k items ++ drop k start) (sym (add-one n));
    }
