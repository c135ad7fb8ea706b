-- A grid of which one row is set, cell by cell.
use Rattle.std.proofs.Common.{◌≡◌, ℕ, ◌+◌, ◌-◌, ◌<◌, List, [], length, take, drop, set, ap, ◌∙◌, arith}
use Rattle.std.proofs.lemmas.List.{get_or-set_same, set-set}
use Rattle.vt_cells.specs.declared.cell.Cell.{Cell}
use Rattle.vt_grid.specs.Grid.{GridView, with_cell, with_row}

-- one cell more of a row
pub set_twice : (s : GridView) (y : ℕ) (row : List Cell) (x : ℕ) (c : Cell) → y < length s.cells
    → with_cell (with_row s y row) y x c ≡ with_row s y (set row x c)
set_twice s y row x c within =
    ap (λ (now : List Cell). with_row (with_row s y row) y (set now x c)) (get_or-set_same s.cells y row [] within)
    ∙ ap (λ (cells : List (List Cell)). record s { cells = cells }) (set-set s.cells y row (set row x c))

-- so many items behind the first
pub piece_is : {X : Type 0} (items : List X) (start count : ℕ)
    → take (start + count - start) (drop start items) ≡ take count (drop start items)
piece_is items start count = ap (λ k. take k (drop start items)) (omega arith)
