-- Cells drawn over others: a row in two parts, of which the second is drawn over.
use Rattle.std.proofs.Common.{◌≡◌, ℕ, zero, suc, ◌+◌, ◌<◌, ◌≤◌, Bool, true, false, List, [], ◌∷◌, ◌++◌, length, take, drop, refl, sym, ap, ◌∙◌, arith}
use Rattle.std.specs.Prelude.{if◌then◌else◌}
use Rattle.std.proofs.lemmas.Bool.{cond-false}
use Rattle.std.proofs.lemmas.List.{drop-drop, drop_at, get_or_at, length-append, set_at, take_at}
use Rattle.vt_cells.specs.Width.{is_half}
use Rattle.vt_cells.specs.declared.cell.Cell.{Cell}
use Rattle.vt_grid.specs.Grid.{GridView, overlaid, row_at, grid_view_of, with_row, with_run}
use Rattle.vt_grid.specs.Halves.{with_cells_at, split_pair, split_wide, split_wide_at, space_in_colours}

-- cells before which a border comes, whose first one is a space where it was a half
abbrev pub cut : List Cell → List Cell
cut [] = []
cut (c ∷ cells) = (if is_half c then space_in_colours c else c) ∷ cells

abbrev pub begins_half : List Cell → Bool
begins_half [] = false
begins_half (c ∷ cells) = is_half c

pub cut_begins : (cells : List Cell) → begins_half (cut cells) ≡ false
cut_begins [] = refl
cut_begins (c ∷ cells) = by (is_half c) refl
  where
    by : (t : Bool) → is_half c ≡ t → is_half (if t then space_in_colours c else c) ≡ false
    by true is = refl
    by false is = is

pub cut-length : (cells : List Cell) → length (cut cells) ≡ length cells
cut-length [] = refl
cut-length (c ∷ cells) = refl

-- nothing stands before, or what stands behind begins with no half
abbrev pub IsOpen : List Cell → List Cell → Type 0
IsOpen [] rest = Unit {0}
IsOpen (c ∷ front) rest = begins_half rest ≡ false

pub open_any : (front rest : List Cell) → begins_half rest ≡ false → IsOpen front rest
open_any [] rest is = tt
open_any (c ∷ front) rest is = is

pair_same : (c : Cell) (rest : List Cell) → begins_half rest ≡ false → split_pair (c ∷ rest) ≡ c ∷ rest
pair_same c [] is = refl
pair_same c (d ∷ rest) is = cond-false (is_half d) _ _ is

split_wide_same : (front rest : List Cell) → IsOpen front rest → split_wide (length front) (front ++ rest) ≡ front ++ rest
split_wide_same [] rest is = refl
split_wide_same (c ∷ []) rest is = pair_same c rest is
split_wide_same (c ∷ d ∷ front) rest is = ap (λ (cells : List Cell). c ∷ cells) (split_wide_same (d ∷ front) rest is)

take-split_wide : (x k : ℕ) (row : List Cell) → x < k → take x (split_wide k row) ≡ take x row
take-split_wide x zero row h = absurd (omega (arith, h))
take-split_wide zero (suc k) row h = refl
take-split_wide (suc x) (suc zero) row h = absurd (omega (arith, h))
take-split_wide (suc x) (suc (suc k)) [] h = refl
take-split_wide (suc x) (suc (suc k)) (c ∷ row) h = ap (λ (cells : List Cell). c ∷ cells) (take-split_wide x (suc k) row (omega (arith, h)))

drop_pair : (c : Cell) (row : List Cell) → drop 1 (split_pair (c ∷ row)) ≡ cut row
drop_pair c [] = refl
drop_pair c (d ∷ row) = by (is_half d)
  where
    by : (t : Bool) → drop 1 (if t then space_in_colours c ∷ space_in_colours d ∷ row else c ∷ d ∷ row) ≡ (if t then space_in_colours d else d) ∷ row
    by true = refl
    by false = refl

drop-split_wide : (k : ℕ) (row : List Cell) → 0 < k → k ≤ length row → drop k (split_wide k row) ≡ cut (drop k row)
drop-split_wide zero row some within = absurd (omega (arith, some))
drop-split_wide (suc k) [] some within = absurd (omega (arith, within))
drop-split_wide (suc zero) (c ∷ row) some within = drop_pair c row
drop-split_wide (suc (suc k)) (c ∷ row) some within = drop-split_wide (suc k) row (omega arith) (omega (arith, within))

-- a row after cells were drawn over it from the end of its first part on
pub row_with_cells_at : (front cells rest : List Cell) → IsOpen front rest → 0 < length cells → length cells ≤ length rest
    → overlaid (length front) cells (split_wide (length front + length cells) (split_wide (length front) (front ++ rest)))
    ≡ front ++ (cells ++ cut (drop (length cells) rest))
row_with_cells_at front cells rest is some within =
    let x : ℕ = length front in
    let n : ℕ = length cells in
    let row : List Cell = front ++ rest in
    let same : split_wide x row ≡ row = split_wide_same front rest is in
    let long : x + n ≤ length row = omega (arith, length-append front rest, within) in
    let first : take x (split_wide (x + n) row) ≡ front =
    take-split_wide x (x + n) row (omega (arith, some)) ∙ take_at front rest x refl in
    let last : drop (x + n) (split_wide (x + n) row) ≡ cut (drop n rest) =
    drop-split_wide (x + n) row (omega (arith, some)) long
    ∙ ap cut (sym (drop-drop n x row) ∙ ap (drop n) (drop_at front rest x refl)) in
    ap (λ (r : List Cell). overlaid x cells (split_wide (x + n) r)) same
    ∙ (λ i. first i ++ (cells ++ last i))

-- a sheet with one row apart
abbrev pub sheet_with : ℕ → ℕ → List (List Cell) → List Cell → List (List Cell) → GridView
sheet_with rows cols above row below = grid_view_of rows cols (above ++ row ∷ below)

module _ (rows cols : ℕ) (above below : List (List Cell)) where
  pub row_there : (row : List Cell) → row_at (sheet_with rows cols above row below) (length above) ≡ row
  row_there row = get_or_at above row below [] (length above) refl

  row-set : (row other : List Cell)
      → with_row (sheet_with rows cols above row below) (length above) other ≡ sheet_with rows cols above other below
  row-set row other = ap (grid_view_of rows cols) (set_at above row below other (length above) refl)

  parted-there : (row : List Cell) (x : ℕ)
      → split_wide_at (sheet_with rows cols above row below) (length above) x
      ≡ sheet_with rows cols above (split_wide x row) below
  parted-there row x =
      ap (λ (r : List Cell). with_row (sheet_with rows cols above row below) (length above) (split_wide x r)) (row_there row)
      ∙ row-set row (split_wide x row)

  run-there : (row cells : List Cell) (x : ℕ)
      → with_run (sheet_with rows cols above row below) (length above) x cells
      ≡ sheet_with rows cols above (overlaid x cells row) below
  run-there row cells x =
      ap (λ (r : List Cell). with_row (sheet_with rows cols above row below) (length above) (overlaid x cells r)) (row_there row)
      ∙ row-set row (overlaid x cells row)

  -- cells drawn over a row of a sheet
  pub with_cells_at_there : (front cells rest : List Cell) → IsOpen front rest → 0 < length cells → length cells ≤ length rest
      → with_cells_at (sheet_with rows cols above (front ++ rest) below) (length above) (length front) cells
      ≡ sheet_with rows cols above (front ++ (cells ++ cut (drop (length cells) rest))) below
  with_cells_at_there front cells rest is some within =
      let y : ℕ = length above in
      let x : ℕ = length front in
      let row : List Cell = front ++ rest in
      ap (λ (g : GridView). with_run (split_wide_at g y (x + length cells)) y x cells) (parted-there row x)
      ∙ ap (λ (g : GridView). with_run g y x cells) (parted-there (split_wide x row) (x + length cells))
      ∙ run-there (split_wide (x + length cells) (split_wide x row)) cells x
      ∙ ap (λ (r : List Cell). sheet_with rows cols above r below) (row_with_cells_at front cells rest is some within)
