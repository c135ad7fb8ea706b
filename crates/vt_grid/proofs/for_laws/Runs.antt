-- A run of cells, one cell after another.
use Rattle.std.proofs.Common.{◌≡◌, ℕ, ◌+◌, ◌<◌, List, [], ◌∷◌, ◌++◌, length, take, drop, set, get_or, inl, inr, sym, ap, ◌∙◌, add-zero, append_assoc, arith}
use Rattle.std.proofs.lemmas.Bool.{cases_lt}
use Rattle.std.proofs.lemmas.List.{take-append-drop, set-get_or, set-set, set_past, get_or-set_same, get_or_past, length-set, take_more_set, drop-set-lt}
use Rattle.vt_grid.specs.Grid.{row_at, overlaid, with_cell}
use Rattle.vt_grid.specs.Laws.{CellKeepsWidth, RunOfMore, RunOfNone}
use Rattle.vt_cells.specs.declared.cell.Cell.{Cell}

pub run_of_none : RunOfNone
run_of_none s y x =
    ap (λ (cells : List (List Cell)). record s { cells = cells })
    (ap (set s.cells y)
    (ap (λ k. take x (row_at s y) ++ drop k (row_at s y)) (add-zero x)
    ∙ take-append-drop x (row_at s y))
    ∙ set-get_or s.cells y [])

pub cell_keeps_width : CellKeepsWidth
cell_keeps_width s y x c =
    let now = set (row_at s y) x c in
    elim (cases_lt y (length s.cells)) [
      | inl within ↦
          ap length (get_or-set_same s.cells y now [] within) ∙ length-set (row_at s y) x c
      | inr past ↦
          ap length (ap (λ (rows : List (List Cell)). get_or rows y []) (set_past s.cells y now past))
    ]

-- the run of the others goes on from the first cell
overlaid_more : (x : ℕ) (c : Cell) (cells row : List Cell) → x < length row
    → overlaid x (c ∷ cells) row ≡ overlaid (x + 1) cells (set row x c)
overlaid_more x c cells row within =
    let rest = drop (x + 1 + length cells) row in
    sym
    ((λ i. take_more_set row x c within i
    ++ (cells ++ drop-set-lt (x + 1 + length cells) row x c (omega arith) i))
    ∙ append_assoc (take x row) (c ∷ []) (cells ++ rest)
    ∙ ap (λ k. take x row ++ c ∷ (cells ++ drop k row)) (omega arith))

pub run_of_more : RunOfMore
run_of_more s y x c cells within =
    let row = row_at s y in
    let first = set row x c in
    elim (cases_lt y (length s.cells)) [
      | inl in_rows ↦
          ap (λ (now : List Cell). record s { cells = set s.cells y now })
          (overlaid_more x c cells row within
          ∙ ap (overlaid (x + 1) cells) (sym (get_or-set_same s.cells y first [] in_rows)))
          ∙ ap (λ (rows : List (List Cell)). record s { cells = rows })
          (sym (set-set s.cells y first (overlaid (x + 1) cells (row_at (with_cell s y x c) y))))
      | inr past ↦ absurd (omega (arith, ap length (get_or_past s.cells y [] past)))
    ]
