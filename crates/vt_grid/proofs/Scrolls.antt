-- Rows that move, and those that come in.
use Rattle.std.proofs.Common.{◌≡◌, ℕ, ◌+◌, ◌-◌, ◌<◌, ◌≤◌, min, List, ◌++◌, map, length, take, drop, set, replicate, sym, ap, ◌∙◌, arith, rules}
use Rattle.std.proofs.lemmas.Bool.{cases_eq}
use Rattle.std.proofs.lemmas.List.{places, same_lists, get_or-set_same, length-set, length-map, map-append, take-map, drop-map}
use Rattle.vt_grid.proofs.Shown.{map-replicate, cells_of-blank_row}
use Rattle.vt_grid.proofs.Turns.{map-part_turned}
use Rattle.vt_grid.specs.Grid.{grid_view_of, moved_down, moved_up, scrolled_down, scrolled_up}
use Rattle.vt_grid.specs.StoredRow.{blank_row, cells_of}
use Rattle.vt_grid.specs.Store.{Store, IsFit, with_run_of, part_turned, grid_view}
use Rattle.vt_cells.specs.declared.cell.Cell.{Cell}

-- elements that move down
abbrev moved : {A : Type 0} → ℕ → A → List A → List A
moved n x xs = replicate n x ++ take (length xs - n) xs

-- one more element is cleared
pub cleared_more : {A : Type 0} (from i : ℕ) (x : A) (xs : List A) → from + i < length xs
    → set (with_run_of from i x xs) (from + i) x ≡ with_run_of from (i + 1) x xs
cleared_more from i x xs within =
    same_lists _ _ (search (rules, places, length-set))
    (λ k d k_in. grind (arith, places, length-set, get_or-set_same, cases_eq k (from + i)))

pub cleared_none : {A : Type 0} (from : ℕ) (x : A) (xs : List A) → from ≤ length xs
    → with_run_of from 0 x xs ≡ xs
cleared_none from x xs within =
    same_lists _ _ (search (rules, places)) (λ k d k_in. grind (arith, places))

map-with_run_of : {A B : Type 0} (f : A → B) (from count : ℕ) (x : A) (xs : List A)
    → map f (with_run_of from count x xs) ≡ with_run_of from count (f x) (map f xs)
map-with_run_of f from count x xs =
    map-append f (take from xs) (replicate count x ++ drop (from + count) xs)
    ∙ (λ i. sym (take-map f from xs) i
    ++ map-append f (replicate count x) (drop (from + count) xs) i)
    ∙ (λ i. take from (map f xs)
    ++ (map-replicate f count x i ++ sym (drop-map f (from + count) xs) i))

-- a part that is turned, and whose last elements are cleared
with_run_of-part_turned : {A : Type 0} (top bottom n : ℕ) (x : A) (xs : List A) → top ≤ bottom
    → bottom < length xs → n ≤ bottom + 1 - top
    → with_run_of (bottom + 1 - n) n x (part_turned top bottom n xs)
    ≡ take top xs
    ++ ((drop n (take (bottom + 1 - top) (drop top xs)) ++ replicate n x) ++ drop (bottom + 1) xs)
with_run_of-part_turned top bottom n x xs order last n_in =
    same_lists _ _ (search (rules, places)) (λ k d k_in. grind (arith, places))

-- a part that is turned the other way, and whose first elements are cleared
with_run_of_part_turned_down : {A : Type 0} (top bottom n : ℕ) (x : A) (xs : List A) → top ≤ bottom
    → bottom < length xs → n ≤ bottom + 1 - top
    → with_run_of top n x (part_turned top bottom (bottom + 1 - top - n) xs)
    ≡ take top xs
    ++ (moved n x (take (bottom + 1 - top) (drop top xs)) ++ drop (bottom + 1) xs)
with_run_of_part_turned_down top bottom n x xs order last n_in =
    same_lists _ _ (search (rules, places)) (λ k d k_in. grind (arith, places))

-- a scroll of the stored rows is a scroll of the grid
pub shown_scrolled_up : (s : Store) (top bottom n count : ℕ) (c : Cell) → top ≤ bottom
    → bottom < s.rows → IsFit s → count ≡ min n (bottom + 1 - top)
    → grid_view (record s {
      lines = with_run_of (bottom + 1 - count) count (blank_row c)
          (part_turned top bottom count s.lines);
    })
    ≡ scrolled_up (grid_view s) top bottom n c
shown_scrolled_up s top bottom n count c order last fit count_is =
    let cells = cells_of s.cols in
    let rows : List (List Cell) = map cells s.lines in
    let tall : length rows ≡ s.rows = length-map s.lines cells ∙ fit.tall in
    let height = bottom + 1 - top in
    ap (grid_view_of s.rows s.cols)
    (map-with_run_of cells (bottom + 1 - count) count (blank_row c)
    (part_turned top bottom count s.lines)
    ∙ (λ i. with_run_of (bottom + 1 - count) count (cells_of-blank_row s.cols c i)
    (map-part_turned cells top bottom count s.lines i))
    ∙ with_run_of-part_turned top bottom count (replicate s.cols c) rows order (omega arith) (omega arith)
    ∙ ap (λ m. take top rows
    ++ (moved_up m (replicate s.cols c) (take height (drop top rows)) ++ drop (bottom + 1) rows))
    count_is)

-- a scroll down of the stored rows is one of the grid
pub shown_scrolled_down : (s : Store) (top bottom n count : ℕ) (c : Cell) → top ≤ bottom
    → bottom < s.rows → IsFit s → count ≡ min n (bottom + 1 - top)
    → grid_view (record s {
      lines = with_run_of top count (blank_row c)
          (part_turned top bottom (bottom + 1 - top - count) s.lines);
    })
    ≡ scrolled_down (grid_view s) top bottom n c
shown_scrolled_down s top bottom n count c order last fit count_is =
    let cells = cells_of s.cols in
    let rows : List (List Cell) = map cells s.lines in
    let tall : length rows ≡ s.rows = length-map s.lines cells ∙ fit.tall in
    let height = bottom + 1 - top in
    ap (grid_view_of s.rows s.cols)
    (map-with_run_of cells top count (blank_row c) (part_turned top bottom (height - count) s.lines)
    ∙ (λ i. with_run_of top count (cells_of-blank_row s.cols c i)
    (map-part_turned cells top bottom (height - count) s.lines i))
    ∙ with_run_of_part_turned_down top bottom count (replicate s.cols c) rows order (omega arith)
    (omega arith)
    ∙ ap (λ m. take top rows
    ++ (moved_down m (replicate s.cols c) (take height (drop top rows)) ++ drop (bottom + 1) rows))
    count_is)
