use Rattle.std.proofs.Common.{◌≡◌, ℕ, ◌<◌, ◌++◌, List, [], ap, sym, ◌∙◌, add-one, arith, drop, length, map, take}
use Rattle.std.proofs.lemmas.List.{get_or-map, length-map}
use Rattle.machine_c.proofs.Edited.{set_twice}
use Rattle.c_calls.proofs.Prefixes.{written_more}
use Rattle.c_cells.specs.Cells.{cell_of}
use Rattle.c_cells.specs.declared.vt_cell.VtCell.{VtCell}
use Rattle.vt_cells.specs.declared.cell.Cell.{Cell}
use Rattle.vt_grid.specs.Grid.{GridView, row_at, with_cell, with_row}
use Rattle.machine_c.proofs.shown_cells.put_row.Goals as goal

pub loop-x-preserved : goal.loop-x-preserved
loop-x-preserved c =
    let s : GridView = c.args.grid.now in
    let y : ℕ = c.args.y in
    let x : ℕ = c.loop-x.x in
    let cells : List VtCell = c.args.cells.now in
    let items : List Cell = map cell_of cells in
    let row : List Cell = row_at s y in
    let none : VtCell = record { code = 0; attr = 0; spare = [] } in
    let tall : y < length s.cells = omega (arith, c.requires.row, c.stays_full.ensures.full.tall) in
    let wide : length row ≡ s.cols = c.stays_full.ensures.full.wide y [] tall in
    let within : x < length cells = c.loop-x-test.true in
    record {
      rows = ap (λ (g : GridView). g.rows) c.put.ensures ∙ c.loop-x.invariant.rows;
      cols = ap (λ (g : GridView). g.cols) c.put.ensures ∙ c.loop-x.invariant.cols;
      whole =
          c.put.ensures
          ∙ ap (λ (g : GridView). with_cell g y x c.cell.result) c.loop-x.invariant.whole
          ∙ set_twice s y (take x items ++ drop x row) x c.cell.result tall
          ∙ ap (with_row s y)
          (written_more items row x c.cell.result c.cell.result
          (omega (arith, within, length-map cells cell_of))
          (omega (arith, within, wide, c.requires.cells))
          (c.cell.ensures ∙ sym (get_or-map cell_of cells x none c.cell.result within)))
          ∙ ap (λ (k : ℕ). with_row s y (take k items ++ drop k row)) (sym (add-one x));
    }
