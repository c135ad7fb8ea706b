-- Rows that are laid over others.
use Rattle.std.proofs.Common.{◌≡◌, ℕ, zero, suc, ◌<◌, ◌≤◌, min, List, [], ◌∷◌, length, take, set, get_or, refl, ap, ◌∙◌, arith, rules}
use Rattle.std.proofs.lemmas.Bool.{cases_eq}
use Rattle.std.proofs.lemmas.List.{places, same_lists, set-set, get_or-set_same, length-set}
use Rattle.vt_grid.specs.Grid.{IsFull, GridView, laid_over, overlaid, row_at, rows_laid_over, with_cell, with_run}
use Rattle.vt_cells.specs.declared.cell.Cell.{Cell}

-- one row more is laid over the one at its place
pub rows_laid_over_more : (rows unders : List (List Cell)) (i : ℕ) → i < length rows
    → i < length unders
    → set (rows_laid_over (take i rows) unders) i
    (laid_over (get_or rows i []) (get_or unders i []))
    ≡ rows_laid_over (take (suc i) rows) unders
rows_laid_over_more [] unders i in_rows in_unders = absurd (omega arith)
rows_laid_over_more (row ∷ rows) [] i in_rows in_unders = absurd (omega arith)
rows_laid_over_more (row ∷ rows) (under ∷ unders) zero in_rows in_unders = refl
rows_laid_over_more (row ∷ rows) (under ∷ unders) (suc i) in_rows in_unders =
    ap (λ rest. laid_over row under ∷ rest)
    (rows_laid_over_more rows unders i (omega arith) (omega arith))

-- a row over which none is laid yet
pub get_or-rows_laid_over : (rows unders : List (List Cell)) (i : ℕ) → i < length rows
    → get_or (rows_laid_over (take i rows) unders) i [] ≡ get_or unders i []
get_or-rows_laid_over [] unders i in_rows = absurd (omega arith)
get_or-rows_laid_over (row ∷ rows) unders zero in_rows = refl
get_or-rows_laid_over (row ∷ rows) [] (suc i) in_rows = refl
get_or-rows_laid_over (row ∷ rows) (under ∷ unders) (suc i) in_rows =
    get_or-rows_laid_over rows unders i (omega arith)

-- rows past the last one are laid over nothing
pub rows_laid_over_all : (rows unders : List (List Cell)) (n : ℕ) → length unders ≤ n
    → rows_laid_over (take n rows) unders ≡ rows_laid_over rows unders
rows_laid_over_all [] unders zero within = refl
rows_laid_over_all [] unders (suc n) within = refl
rows_laid_over_all (row ∷ rows) [] zero within = refl
rows_laid_over_all (row ∷ rows) [] (suc n) within = refl
rows_laid_over_all (row ∷ rows) (under ∷ unders) zero within = absurd (omega arith)
rows_laid_over_all (row ∷ rows) (under ∷ unders) (suc n) within =
    ap (λ rest. laid_over row under ∷ rest) (rows_laid_over_all rows unders n (omega arith))

-- as many cells of a row as both have are the row laid over the other
pub overlaid-laid_over : (cols : ℕ) (row under : List Cell)
    → cols ≡ min (length under) (length row)
    → overlaid 0 (take cols row) under ≡ laid_over row under
overlaid-laid_over cols row under cols_is =
    same_lists _ _ (search (rules, places)) (λ k d k_in. grind (arith, places))

overlaid-set : (x : ℕ) (cells row : List Cell) (c : Cell) → x < length cells → length cells ≤ length row
    → set (overlaid 0 cells row) x c ≡ overlaid 0 (set cells x c) row
overlaid-set x cells row c within in_row =
    same_lists _ _ (search (rules, places, length-set))
    (λ k d k_in. grind (arith, places, length-set, get_or-set_same, cases_eq k x))

-- a run of which one cell is set then
pub with_run-set : (s : GridView) (y x : ℕ) (cells : List Cell) (c : Cell) → IsFull s → y < s.rows
    → x < length cells → length cells ≤ s.cols
    → with_cell (with_run s y 0 cells) y x c ≡ with_run s y 0 (set cells x c)
with_run-set s y x cells c full y_in within in_cols =
    let row = row_at s y in
    let wide : length row ≡ s.cols = full.wide y [] (omega (arith, full.tall)) in
    let tall : y < length s.cells = omega (arith, full.tall) in
    ap (λ (now : List (List Cell)). record s { cells = now })
    ((λ i. set (set s.cells y (overlaid 0 cells row)) y
    (set (get_or-set_same s.cells y (overlaid 0 cells row) [] tall i) x c))
    ∙ set-set s.cells y (overlaid 0 cells row) (set (overlaid 0 cells row) x c)
    ∙ ap (set s.cells y) (overlaid-set x cells row c within (omega (arith, wide))))
