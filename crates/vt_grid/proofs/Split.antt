-- A row of a grid that is split, or has nothing to split.
use Rattle.std.proofs.Common.{◌≡◌, ℕ, suc, ◌<◌, ◌≤◌, true, false, List, [], ◌∷◌, length, map, set, get_or, Some, refl, sym, ap, ◌∙◌, subst, arith}
use Rattle.std.specs.Prelude.{All, slice_get}
use Rattle.std.proofs.lemmas.List.{get_or-map, get_or-set_other, get_or-set_same, length-map}
use Rattle.std.proofs.lemmas.List.Elements.{All-head, All-map, All-tail, All-weaker}
use Rattle.std.proofs.lemmas.Option.{get_or_from_slice_get, slice_get-get_or}
use Rattle.vt_cells.specs.Width.{is_half}
use Rattle.vt_grid.proofs.Border.{half_at, length-split_wide, no_cell, split_wide_away, split_wide_both, split_wide_none, split_wide_past}
use Rattle.vt_grid.proofs.Joins.{edited, ends_are_whole, row_kept}
use Rattle.vt_grid.specs.Grid.{HasCellAt, IsFull, GridView, row_at, with_cell, with_row}
use Rattle.vt_grid.specs.Halves.{split_wide, split_wide_at, split_wide_rows, space_in_colours}
use Rattle.vt_cells.specs.declared.cell.Cell.{Cell}

pub whole_first : (s : GridView) (y : ℕ) → s ≡ split_wide_at s y 0
whole_first s y = sym (row_kept s y (row_at s y) refl)

pub whole_past : (s : GridView) (y x : ℕ) → IsFull s → s.cols ≤ x → s ≡ split_wide_at s y x
whole_past s y x full past = sym (ends_are_whole s y x full past)

pub whole_none : (s : GridView) (y x : ℕ) (c : Cell) → HasCellAt s y x c → is_half c ≡ false
    → s ≡ split_wide_at s y x
whole_none s y x c at none =
    let row = row_at s y in
    sym (row_kept s y (split_wide x row) (split_wide_none x row (ap is_half (get_or_from_slice_get row x c no_cell at) ∙ none)))

both_at : (s : GridView) (y x : ℕ) (left right : Cell) → y < length s.cells → HasCellAt s y x left
    → HasCellAt s y (suc x) right → is_half right ≡ true
    → with_cell (with_cell s y x (space_in_colours left)) y (suc x) (space_in_colours right) ≡ split_wide_at s y (suc x)
both_at s y x left right y_in at_left at_right half =
    let row = row_at s y in
    let left_is : get_or row x no_cell ≡ left = get_or_from_slice_get row x left no_cell at_left in
    let right_is : get_or row (suc x) no_cell ≡ right = get_or_from_slice_get row (suc x) right no_cell at_right in
    edited s y (set row x (space_in_colours left)) (λ cells. set cells (suc x) (space_in_colours right)) y_in
    ∙ ap (with_row s y)
    ((λ i. set (set row x (space_in_colours (sym left_is i))) (suc x) (space_in_colours (sym right_is i)))
    ∙ sym (split_wide_both x row (ap is_half right_is ∙ half)))

-- both cells at a border become spaces
pub both_space_in_colours : (s : GridView) (y k x : ℕ) (left right : Cell) → x ≡ suc k → y < length s.cells
    → HasCellAt s y k left → HasCellAt s y x right → is_half right ≡ true
    → with_cell (with_cell s y k (space_in_colours left)) y x (space_in_colours right) ≡ split_wide_at s y x
both_space_in_colours s y k x left right x_is y_in at_left at_right half =
    subst (λ n. HasCellAt s y n right → with_cell (with_cell s y k (space_in_colours left)) y n (space_in_colours right) ≡ split_wide_at s y n)
    (sym x_is) (λ at. both_at s y k left right y_in at_left at half) at_right

-- a cell that no border is beside
pub get_away : (row : List Cell) (border x : ℕ) (cell : Cell) → x < length row → suc x < border
    → slice_get row x ≡ Some cell → slice_get (split_wide border row) x ≡ Some cell
get_away row border x cell within off at =
    slice_get-get_or (split_wide border row) x no_cell (omega (arith, within, length-split_wide border row))
    ∙ ap Some (split_wide_away border x row no_cell (omega (arith, off)) (omega (arith, off)) ∙ get_or_from_slice_get row x cell no_cell at)

-- a cell of a row that has nothing to part
pub get_same : (row : List Cell) (border x : ℕ) (cell : Cell) → split_wide border row ≡ row
    → slice_get row x ≡ Some cell → slice_get (split_wide border row) x ≡ Some cell
get_same row border x cell same at = ap (λ (cells : List Cell). slice_get cells x) same ∙ at

get_left_at : (row : List Cell) (x : ℕ) (cell : Cell) → suc x < length row → half_at (suc x) row ≡ true
    → slice_get row x ≡ Some cell → slice_get (split_wide (suc x) row) x ≡ Some (space_in_colours cell)
get_left_at row x cell within half at =
    let left = space_in_colours (get_or row x no_cell) in
    let right = space_in_colours (get_or row (suc x) no_cell) in
    slice_get-get_or (split_wide (suc x) row) x no_cell (omega (arith, within, length-split_wide (suc x) row))
    ∙ ap Some
    (ap (λ (cells : List Cell). get_or cells x no_cell) (split_wide_both x row half)
    ∙ get_or-set_other (set row x left) (suc x) x right no_cell (omega arith)
    ∙ get_or-set_same row x left no_cell (omega (arith, within))
    ∙ ap space_in_colours (get_or_from_slice_get row x cell no_cell at))

-- a left half
pub get_left : (row : List Cell) (border x : ℕ) (cell right : Cell) → border ≡ suc x → border < length row
    → slice_get row x ≡ Some cell → slice_get row border ≡ Some right → is_half right ≡ true
    → slice_get (split_wide border row) x ≡ Some (space_in_colours cell)
get_left row border x cell right is within at at_right half =
    let there : half_at border row ≡ true = ap is_half (get_or_from_slice_get row border right no_cell at_right) ∙ half in
    subst (λ n. n < length row → half_at n row ≡ true → slice_get (split_wide n row) x ≡ Some (space_in_colours cell)) (sym is)
    (λ (short : suc x < length row) (h : half_at (suc x) row ≡ true). get_left_at row x cell short h at) within there

-- no half stands behind the border
pub none_there : (row : List Cell) (border : ℕ) (right : Cell) → slice_get row border ≡ Some right
    → is_half right ≡ false → split_wide border row ≡ row
none_there row border right at none =
    split_wide_none border row (ap is_half (get_or_from_slice_get row border right no_cell at) ∙ none)

-- rows that end before the border
rows_kept : (x cols : ℕ) (rows : List (List Cell)) → cols ≤ x → All (λ row. length row ≡ cols) rows
    → map (split_wide x) rows ≡ rows
rows_kept x cols [] past wide = refl
rows_kept x cols (row ∷ rows) past wide =
    let first : length row ≡ cols = All-head (λ r. length r ≡ cols) row rows wide in
    λ i. split_wide_past x row (omega (arith, past, first)) i
    ∷ rows_kept x cols rows past (All-tail (λ r. length r ≡ cols) row rows wide) i

pub rows_whole : (s : GridView) (x : ℕ) → IsFull s → s.cols ≤ x → split_wide_rows x s ≡ s
rows_whole s x full past =
    ap (λ (cells : List (List Cell)). record s { cells = cells }) (rows_kept x s.cols s.cells past full.wide)

-- a sheet whose rows are parted
pub full_split_wide : (s : GridView) (x : ℕ) → IsFull s → IsFull (split_wide_rows x s)
full_split_wide s x full = record {
  tall = length-map s.cells (split_wide x) ∙ full.tall;
  wide =
      All-map (λ row. length row ≡ s.cols) (split_wide x) s.cells
      (All-weaker (λ row. length row ≡ s.cols) (λ row. length (split_wide x row) ≡ s.cols)
      (λ row wide. length-split_wide x row ∙ wide) s.cells full.wide);
}

pub row_of_split_wide : (s : GridView) (x y : ℕ) → y < length s.cells → split_wide x (row_at s y) ≡ row_at (split_wide_rows x s) y
row_of_split_wide s x y y_in = sym (get_or-map (split_wide x) s.cells y [] [] y_in)
