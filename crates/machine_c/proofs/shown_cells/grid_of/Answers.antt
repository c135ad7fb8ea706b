use Rattle.std.proofs.Common.{◌≡◌, ℕ, ◌+◌, ◌-◌, ◌*◌, ◌<◌, ◌++◌, List, [], ap, sym, ◌∙◌, add-one, append-nil, arith, drop, length, map, set, take}
use Rattle.std.specs.List.{range_with_len}
use Rattle.std.proofs.lemmas.List.FromFn.{get_or-map-range_with_len, length-map-range_with_len}
use Rattle.std.proofs.lemmas.List.{drop_all, length-replicate, take_all}
use Rattle.machine_c.proofs.Edited.{piece_is}
use Rattle.c_calls.proofs.Prefixes.{written_more}
use Rattle.c_cells.specs.Cells.{cell_of}
use Rattle.machine_c.specs.Cells.{row_of}
use Rattle.c_cells.specs.declared.vt_cell.VtCell.{VtCell}
use Rattle.vt_cells.specs.declared.cell.Cell.{Cell}
use Rattle.vt_grid.specs.Grid.{GridView}
use Rattle.machine_c.proofs.shown_cells.grid_of.Goals as goal

pub loop-y-preserved : goal.loop-y-preserved
loop-y-preserved c =
    let rows : ℕ = c.args.size.rows in
    let cells : List VtCell = c.args.cells.now in
    let row : ℕ → List Cell = row_of c.args.size.cols cells in
    let all : List (List Cell) = map row (range_with_len 0 rows) in
    let blanks : List (List Cell) = c.in_ok-grid.grid.cells in
    let y : ℕ = c.loop-y.y in
    let wide : ℕ = c.from-cols.result in
    let this : List Cell = map cell_of (take (y * wide + wide - y * wide) (drop (y * wide) cells)) in
    let within : y < rows = omega (arith, c.loop-y-test.true, c.from-y-end.ensures) in
    let tall : length blanks ≡ rows =
    ap (λ (g : GridView). length g.cells) c.in_ok-grid.ensures ∙ length-replicate _ _ in
    record {
      rows = ap (λ (g : GridView). g.rows) c.put_row.ensures ∙ c.loop-y.invariant.rows;
      cols = ap (λ (g : GridView). g.cols) c.put_row.ensures ∙ c.loop-y.invariant.cols;
      cells =
          ap (λ (g : GridView). g.cells) c.put_row.ensures
          ∙ ap (λ (now : List (List Cell)). set now y this) c.loop-y.invariant.cells
          ∙ written_more all blanks y this []
          (omega (arith, within, length-map-range_with_len row 0 rows))
          (omega (arith, within, tall))
          (ap (map cell_of)
          (piece_is cells (y * wide) wide ∙ ap (λ (w : ℕ). take w (drop (y * w) cells)) c.from-cols.ensures)
          ∙ sym (get_or-map-range_with_len row 0 rows y y [] within (omega arith)))
          ∙ ap (λ (k : ℕ). take k all ++ drop k blanks) (sym (add-one y));
    }

pub returns : goal.returns
returns c =
    let rows : ℕ = c.args.size.rows in
    let row : ℕ → List Cell = row_of c.args.size.cols c.args.cells.now in
    let all : List (List Cell) = map row (range_with_len 0 rows) in
    let blanks : List (List Cell) = c.in_ok-grid.grid.cells in
    let y : ℕ = c.loop-y.y in
    let tall : length blanks ≡ rows =
    ap (λ (g : GridView). length g.cells) c.in_ok-grid.ensures ∙ length-replicate _ _ in
    let whole : c.loop-y.grid.cells ≡ all =
    c.loop-y.invariant.cells
    ∙ ap (λ (front : List (List Cell)). front ++ drop y blanks)
    (take_all y all
    (omega (arith, c.loop-y-test.false, c.from-y-end.ensures, length-map-range_with_len row 0 rows)))
    ∙ ap (λ (back : List (List Cell)). all ++ back)
    (drop_all y blanks (omega (arith, c.loop-y-test.false, c.from-y-end.ensures, tall)))
    ∙ append-nil all in
    λ i.
    record { rows = c.loop-y.invariant.rows i; cols = c.loop-y.invariant.cols i; cells = whole i }
