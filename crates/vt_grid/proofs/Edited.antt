-- The cells of a stored row, after an edit of it.
use Rattle.std.proofs.Common.{◌≡◌, ℕ, ◌+◌, ◌-◌, ◌<◌, ◌≤◌, min, List, ◌++◌, length, take, drop, replicate, ap, ◌∙◌, arith, rules}
use Rattle.std.proofs.lemmas.List.{places, same_lists, length-append, length-replicate}
use Rattle.vt_grid.proofs.Shown.{cells_of-cut_at, cells_of-stored_up_to, cells_of-with_stored_cells, length-cells_of, shown_changed}
use Rattle.vt_grid.specs.Grid.{with_deleted, with_erased, with_inserted, overlaid, with_run}
use Rattle.vt_grid.specs.StoredRow.{StoredRow, cells_of, cut_at, with_stored_inserted, stored_up_to, with_stored_deleted, with_stored_cells}
use Rattle.vt_grid.specs.Store.{IsFit, Store, stored_row, grid_view, with_stored_row}
use Rattle.vt_cells.specs.declared.cell.Cell.{Cell}

-- what is stored of a row whose cells before x are stored
length-stored_up_to : (x : ℕ) (line : StoredRow)
    → length (stored_up_to x line).stored ≡ length line.stored + (x - length line.stored)
length-stored_up_to x line =
    length-append line.stored (replicate (x - length line.stored) line.rest)
    ∙ ap (λ n. length line.stored + n) (length-replicate (x - length line.stored) line.rest)

-- a run is put
pub shown_put_run : (s : Store) (y x : ℕ) (cells : List Cell) → y < s.rows → IsFit s
    → x + length cells ≤ s.cols
    → grid_view (with_stored_row s y (with_stored_cells x cells (stored_up_to x (stored_row s y))))
    ≡ with_run (grid_view s) y x cells
shown_put_run s y x cells y_in fit in_cols =
    shown_changed s y (λ line. with_stored_cells x cells (stored_up_to x line)) (overlaid x cells) y_in fit
    (λ line short.
    let len = length-stored_up_to x line in
    cells_of-with_stored_cells s.cols x cells (stored_up_to x line) (omega arith) (omega arith) in_cols
    ∙ ap (overlaid x cells) (cells_of-stored_up_to s.cols x line short (omega arith)))

-- one cell, so many times
pub shown_fill : (s : Store) (y x count : ℕ) (c : Cell) → y < s.rows → IsFit s
    → x + count ≤ s.cols
    → grid_view (with_stored_row s y (with_stored_cells x (replicate count c) (stored_up_to x (stored_row s y))))
    ≡ with_run (grid_view s) y x (replicate count c)
shown_fill s y x count c y_in fit in_cols =
    shown_put_run s y x (replicate count c) y_in fit (omega (arith, length-replicate count c))

-- the end of a row is erased
with_erased_end : (cols x : ℕ) (c : Cell) (row : List Cell) → length row ≡ cols → x ≤ cols
    → take x row ++ replicate (cols - x) c ≡ overlaid x (replicate (cols - x) c) row
with_erased_end cols x c row wide within =
    same_lists _ _ (search (rules, places)) (λ k d k_in. grind (arith, places))

pub shown_cut_from : (s : Store) (y x last : ℕ) (c : Cell) → y < s.rows → IsFit s → x ≤ last
    → last + 1 ≡ s.cols
    → grid_view (with_stored_row s y (cut_at x c (stored_up_to x (stored_row s y))))
    ≡ with_erased (grid_view s) y x last c
shown_cut_from s y x last c y_in fit order at_end =
    shown_changed s y (λ line. cut_at x c (stored_up_to x line))
    (λ row. overlaid x (replicate (last + 1 - x) c) row) y_in fit
    (λ line short.
    let len = length-stored_up_to x line in
    cells_of-cut_at s.cols x c (stored_up_to x line) (omega arith) (omega arith)
    ∙ ap (λ row. take x row ++ replicate (s.cols - x) c)
    (cells_of-stored_up_to s.cols x line short (omega arith))
    ∙ with_erased_end s.cols x c (cells_of s.cols line) (length-cells_of s.cols line short) (omega arith)
    ∙ ap (λ n. overlaid x (replicate (n - x) c) (cells_of s.cols line)) (omega arith))

cells_of-with_stored_inserted : (cols x n count : ℕ) (c : Cell) (line : StoredRow) → x < cols
    → x ≤ length line.stored → length line.stored ≤ cols → count ≡ min n (cols - x)
    → cells_of cols (with_stored_inserted cols x count c line)
    ≡ take cols (take x (cells_of cols line) ++ (replicate n c ++ drop x (cells_of cols line)))
cells_of-with_stored_inserted cols x n count c line x_in place short count_is =
    same_lists _ _ (search (rules, places)) (λ k d k_in. grind (arith, places))

pub shown_insert : (s : Store) (y x n count : ℕ) (c : Cell) → y < s.rows → IsFit s → x < s.cols
    → count ≡ min n (s.cols - x)
    → grid_view (with_stored_row s y (with_stored_inserted s.cols x count c (stored_up_to x (stored_row s y))))
    ≡ with_inserted (grid_view s) y x n c
shown_insert s y x n count c y_in fit x_in count_is =
    shown_changed s y (λ line. with_stored_inserted s.cols x count c (stored_up_to x line))
    (λ row. take s.cols (take x row ++ (replicate n c ++ drop x row))) y_in fit
    (λ line short.
    let len = length-stored_up_to x line in
    cells_of-with_stored_inserted s.cols x n count c (stored_up_to x line) x_in (omega arith) (omega arith)
    count_is
    ∙ ap (λ row. take s.cols (take x row ++ (replicate n c ++ drop x row)))
    (cells_of-stored_up_to s.cols x line short (omega arith)))

-- a row without n cells at x, which is filled with c
abbrev without : ℕ → ℕ → ℕ → Cell → List Cell → List Cell
without cols x n c row =
    let left = take x row ++ drop (x + n) row in left ++ replicate (cols - length left) c

cells_of-with_stored_deleted : (cols x n count : ℕ) (c : Cell) (line : StoredRow) → x < cols
    → length line.stored ≡ cols → count ≡ min n (cols - x)
    → cells_of cols (with_stored_deleted x count c line) ≡ without cols x n c (cells_of cols line)
cells_of-with_stored_deleted cols x n count c line x_in whole count_is =
    same_lists _ _ (search (rules, places)) (λ k d k_in. grind (arith, places))

pub shown_remove : (s : Store) (y x n count : ℕ) (c : Cell) → y < s.rows → IsFit s → x < s.cols
    → count ≡ min n (s.cols - x)
    → grid_view (with_stored_row s y (with_stored_deleted x count c (stored_up_to s.cols (stored_row s y))))
    ≡ with_deleted (grid_view s) y x n c
shown_remove s y x n count c y_in fit x_in count_is =
    shown_changed s y (λ line. with_stored_deleted x count c (stored_up_to s.cols line))
    (without s.cols x n c) y_in fit
    (λ line short.
    let len = length-stored_up_to s.cols line in
    cells_of-with_stored_deleted s.cols x n count c (stored_up_to s.cols line) x_in (omega arith) count_is
    ∙ ap (without s.cols x n c) (cells_of-stored_up_to s.cols s.cols line short (omega arith)))
