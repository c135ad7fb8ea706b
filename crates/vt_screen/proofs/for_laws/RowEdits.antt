-- The edits of rows keep each property that rows keep when they are split, cut and joined at columns without a half.
use Rattle.std.proofs.Common.{◌≡◌, ℕ, zero, suc, ◌+◌, ◌-◌, ◌<◌, min, Bool, true, false, List, [], ◌∷◌, ◌++◌, length, map, take, drop, set, replicate, inl, inr, refl, sym, subst, cond, arith, length-take, length-take-le}
use Rattle.std.specs.Prelude.{All}
use Rattle.std.proofs.lemmas.Bool.{cases_lt}
use Rattle.std.proofs.lemmas.List.{drop-replicate, drop_all, get_or-set_same, get_or_past, length-replicate, length-set}
use Rattle.std.proofs.lemmas.List.Elements.{All-append, All-cons, All-drop, All-head, All-map, All-nil, All-replicate, All-set, All-tail, All-take, All-weaker}
use Rattle.vt_cells.specs.Width.{is_half}
use Rattle.vt_cells.specs.declared.cell.Cell.{Cell}
use Rattle.vt_grid.specs.Grid.{GridView, with_deleted, with_erased, filled_grid, with_inserted, laid_over, overlaid, resized_grid, row_at, rows_laid_over, scrolled_down, scrolled_up, with_row}
use Rattle.vt_grid.specs.Halves.{with_cells_at, split_pair, split_wide, split_wide_at, split_wide_between, split_wide_rows, space_in_colours}
use Rattle.vt_screen.proofs.for_laws.Edits.{Each, Edits}

-- the cell in column x is a half
abbrev pub half_in : ℕ → List Cell → Bool
half_in x [] = false
half_in zero (c ∷ row) = is_half c
half_in (suc x) (c ∷ row) = half_in x row

pair_fewer : (x : ℕ) (cells : List Cell) → half_in x cells ≡ false → half_in x (split_pair cells) ≡ false
pair_fewer x [] h = h
pair_fewer x (a ∷ []) h = h
pair_fewer x (a ∷ b ∷ cells) h = by (is_half b) x h
  where
    by : (test : Bool) (n : ℕ) → half_in n (a ∷ b ∷ cells) ≡ false
        → half_in n (cond test (space_in_colours a ∷ space_in_colours b ∷ cells) (a ∷ b ∷ cells)) ≡ false
    by true zero clear = refl
    by true (suc zero) clear = refl
    by true (suc (suc n)) clear = clear
    by false n clear = clear

border_fewer : (end x : ℕ) (row : List Cell) → half_in x row ≡ false
    → half_in x (take end row ++ split_pair (drop end row)) ≡ false
border_fewer zero x row h = pair_fewer x row h
border_fewer (suc end) x [] h = h
border_fewer (suc end) zero (c ∷ row) h = h
border_fewer (suc end) (suc x) (c ∷ row) h = border_fewer end x row h

-- a border makes no half
split_wide_fewer : (end x : ℕ) (row : List Cell) → half_in x row ≡ false → half_in x (split_wide end row) ≡ false
split_wide_fewer zero x row h = h
split_wide_fewer (suc end) x row h = border_fewer end x row h

pair_clear : (cells : List Cell) → half_in 1 (split_pair cells) ≡ false
pair_clear [] = refl
pair_clear (a ∷ []) = refl
pair_clear (a ∷ b ∷ cells) = by (is_half b) refl
  where
    by : (test : Bool) → is_half b ≡ test → half_in 1 (cond test (space_in_colours a ∷ space_in_colours b ∷ cells) (a ∷ b ∷ cells)) ≡ false
    by true is = refl
    by false is = is

border_clear : (x : ℕ) (row : List Cell) → half_in (suc x) (take x row ++ split_pair (drop x row)) ≡ false
border_clear zero row = pair_clear row
border_clear (suc x) [] = refl
border_clear (suc x) (c ∷ row) = border_clear x row

-- a part of a row has no half that the row doesn't have
taken_clear : (k n : ℕ) (row : List Cell) → half_in k row ≡ false → half_in k (take n row) ≡ false
taken_clear k zero row h = refl
taken_clear k (suc n) [] h = refl
taken_clear zero (suc n) (c ∷ row) h = h
taken_clear (suc k) (suc n) (c ∷ row) h = taken_clear k n row h

dropped_clear : (n k at : ℕ) (row : List Cell) → n + k ≡ at → half_in at row ≡ false → half_in k (drop n row) ≡ false
dropped_clear zero k at row same h =
    subst (λ place. half_in place row ≡ false) (let here : at ≡ k = omega (arith, same) in here) h
dropped_clear (suc n) k at [] same h = refl
dropped_clear (suc n) k zero (c ∷ row) same h = absurd (omega (arith, same))
dropped_clear (suc n) k (suc at) (c ∷ row) same h = dropped_clear n k at row (omega (arith, same)) h

joined_clear : (k : ℕ) (a b : List Cell) → (k < length a → half_in k a ≡ false)
    → ((j : ℕ) → length a + j ≡ k → half_in j b ≡ false) → half_in k (a ++ b) ≡ false
joined_clear k [] b here there = there k (omega arith)
joined_clear zero (c ∷ a) b here there = here (omega arith)
joined_clear (suc k) (c ∷ a) b here there =
    joined_clear k a b (λ less. here (omega (arith, less))) (λ j same. there j (omega (arith, same)))

repeated_clear : (k n : ℕ) (c : Cell) → is_half c ≡ false → half_in k (replicate n c) ≡ false
repeated_clear k zero c none = refl
repeated_clear zero (suc n) c none = none
repeated_clear (suc k) (suc n) c none = repeated_clear k n c none

-- where an insertion cuts the row at its end, a border was before
module _ (cols x n : ℕ) (row : List Cell) (clear : half_in (cols - min n (cols - x)) row ≡ false) where
  clear_at : (k : ℕ) → cols - min n (cols - x) ≡ k → half_in k row ≡ false
  clear_at k same = subst (λ place. half_in place row ≡ false) same clear

  behind_clear : (i : ℕ) → length (take x row) + (n + i) ≡ cols → half_in i (drop x row) ≡ false
  behind_clear i same =
      elim (cases_lt (length row) x) [
        | inl short ↦ subst (λ cells. half_in i cells ≡ false) (sym (drop_all x row (omega (arith, short)))) refl
        | inr long ↦
            let len : length (take x row) ≡ x = length-take-le x row long in
            dropped_clear x i (x + i) row refl (clear_at (x + i) (omega (arith, same, len)))
      ]

  inserted_clear : (c : Cell) → is_half c ≡ false
      → half_in cols (take x row ++ (replicate n c ++ drop x row)) ≡ false
  inserted_clear c none =
      joined_clear cols (take x row) (replicate n c ++ drop x row)
      (λ less. taken_clear cols x row (clear_at cols (omega (arith, less, length-take x row))))
      (λ j same.
      joined_clear j (replicate n c) (drop x row) (λ within. repeated_clear j n c none)
      (λ i more. behind_clear i (omega (arith, same, more, length-replicate n c))))

-- what is asked of a property of rows, and of the cells that come in
pub record KeepsRows (Blank : Cell → Type 0) (Row : List Cell → Type 0) : Type 0 where
  pub none : Row []
  pub first : (row : List Cell) → Row row → half_in 0 row ≡ false
  pub split : (x : ℕ) (row : List Cell) → Row row → Row (split_wide x row)
  pub taken : (n : ℕ) (row : List Cell) → Row row → half_in n row ≡ false → Row (take n row)
  pub dropped : (n : ℕ) (row : List Cell) → Row row → half_in n row ≡ false → Row (drop n row)
  pub joined : (a b : List Cell) → Row a → Row b → Row (a ++ b)
  pub filled : (n : ℕ) (c : Cell) → Blank c → Row (replicate n c)
  pub whole : (c : Cell) → Blank c → is_half c ≡ false

-- a sheet whose row at y has no half at these columns
record IsCut (Row : List Cell → Type 0) (s : GridView) (y x end : ℕ) : Type 0 where
  pub each : Each Row s
  pub first : half_in x (row_at s y) ≡ false
  pub last : half_in end (row_at s y) ≡ false

-- a row with a border at this column
abbrev IsParted : (List Cell → Type 0) → ℕ → List Cell → Type 0
IsParted Row cols row = Row row × (half_in cols row ≡ false)

row_now : (s : GridView) (y : ℕ) (row : List Cell) (P : List Cell → Type 0) → P row → P [] → P (row_at (with_row s y row) y)
row_now s y row P is none =
    elim (cases_lt y (length s.cells)) [
      | inl within ↦ subst P (sym (get_or-set_same s.cells y row [] within)) is
      | inr past ↦ subst P (sym (get_or_past (set s.cells y row) y [] (omega (arith, past, length-set s.cells y row)))) none
    ]

module _ (Blank : Cell → Type 0) (Row : List Cell → Type 0) (law : KeepsRows Blank Row) where
  row_of : (s : GridView) (y : ℕ) → Each Row s → Row (row_at s y)
  row_of s y h =
      elim (cases_lt y (length s.cells)) [
        | inl within ↦ h y [] within
        | inr past ↦ subst Row (sym (get_or_past s.cells y [] past)) law.none
      ]

  with_row_is : (s : GridView) (y : ℕ) (row : List Cell) → Each Row s → Row row → Each Row (with_row s y row)
  with_row_is s y row h is = All-set Row s.cells y row is h

  fresh_rows : (n cols : ℕ) (c : Cell) → Blank c → All Row (replicate n (replicate cols c))
  fresh_rows n cols c blank = All-replicate Row n (replicate cols c) (law.filled cols c blank)

  -- no half stands right of a border
  split_clear : (x : ℕ) (row : List Cell) → Row row → half_in x (split_wide x row) ≡ false
  split_clear zero row h = law.first row h
  split_clear (suc x) row h = border_clear x row

  cut : (s : GridView) (y x end : ℕ) → Each Row s → IsCut Row (split_wide_between s y x end) y x end
  cut s y x end h =
      let one = split_wide_at s y x in
      let row = row_at one y in
      let old = row_at s y in
      let one_is : Each Row one = with_row_is s y (split_wide x old) h (law.split x old (row_of s y h)) in
      record {
        each = with_row_is one y (split_wide end row) one_is (law.split end row (row_of one y one_is));
        first =
            row_now one y (split_wide end row) (λ cells. half_in x cells ≡ false)
            (split_wide_fewer end x row
            (row_now s y (split_wide x old) (λ cells. half_in x cells ≡ false) (split_clear x old (row_of s y h)) refl)) refl;
        last =
            row_now one y (split_wide end row) (λ cells. half_in end cells ≡ false)
            (split_clear end row (row_of one y one_is)) refl;
      }

  overlaid_is : (x end : ℕ) (cells row : List Cell) → Row row → Row cells → half_in x row ≡ false
      → half_in end row ≡ false → x + length cells ≡ end → Row (overlaid x cells row)
  overlaid_is x end cells row h cells_are first last end_is =
      law.joined (take x row) (cells ++ drop (x + length cells) row) (law.taken x row h first)
      (law.joined cells (drop (x + length cells) row) cells_are
      (subst (λ n. Row (drop n row)) (sym end_is) (law.dropped end row h last)))

  drawing : (s : GridView) (y x : ℕ) (cells : List Cell) → Each Row s → Row cells → Each Row (with_cells_at s y x cells)
  drawing s y x cells h cells_are =
      let end = x + length cells in
      let t = split_wide_between s y x end in
      let is : IsCut Row t y x end = cut s y x end h in
      with_row_is t y (overlaid x cells (row_at t y)) is.each
      (overlaid_is x end cells (row_at t y) (row_of t y is.each) cells_are is.first is.last refl)

  inserting : (s : GridView) (y x n : ℕ) (c : Cell) → Each Row s → Blank c
      → Each Row (with_inserted (split_wide_between s y x (s.cols - min n (s.cols - x))) y x n c)
  inserting s y x n c h blank =
      let end = s.cols - min n (s.cols - x) in
      let t = split_wide_between s y x end in
      let is : IsCut Row t y x end = cut s y x end h in
      let row = row_at t y in
      let row_is : Row row = row_of t y is.each in
      let long = take x row ++ (replicate n c ++ drop x row) in
      with_row_is t y (take s.cols long) is.each
      (law.taken s.cols long
      (law.joined (take x row) (replicate n c ++ drop x row) (law.taken x row row_is is.first)
      (law.joined (replicate n c) (drop x row) (law.filled n c blank) (law.dropped x row row_is is.first)))
      (inserted_clear s.cols x n row is.last c (law.whole c blank)))

  deleting : (s : GridView) (y x n : ℕ) (c : Cell) → Each Row s → Blank c
      → Each Row (with_deleted (split_wide_between s y x (x + n)) y x n c)
  deleting s y x n c h blank =
      let t = split_wide_between s y x (x + n) in
      let is : IsCut Row t y x (x + n) = cut s y x (x + n) h in
      let row = row_at t y in
      let row_is : Row row = row_of t y is.each in
      let left = take x row ++ drop (x + n) row in
      with_row_is t y (left ++ replicate (t.cols - length left) c) is.each
      (law.joined left (replicate (t.cols - length left) c)
      (law.joined (take x row) (drop (x + n) row) (law.taken x row row_is is.first) (law.dropped (x + n) row row_is is.last))
      (law.filled (t.cols - length left) c blank))

  erasing : (s : GridView) (y x0 x1 : ℕ) (c : Cell) → Each Row s → Blank c
      → Each Row (with_erased (split_wide_between s y x0 (x1 + 1)) y x0 x1 c)
  erasing s y x0 x1 c h blank =
      let t = split_wide_between s y x0 (x1 + 1) in
      let is : IsCut Row t y x0 (x1 + 1) = cut s y x0 (x1 + 1) h in
      let row = row_at t y in
      let row_is : Row row = row_of t y is.each in
      let count = x1 + 1 - x0 in
      let len : length (replicate count c) ≡ count = length-replicate count c in
      with_row_is t y (overlaid x0 (replicate count c) row) is.each
      (elim (cases_lt x1 x0) [
        | inl none_there ↦
            overlaid_is x0 x0 (replicate count c) row row_is (law.filled count c blank) is.first is.first
            (omega (arith, len, none_there))
        | inr order ↦
            overlaid_is x0 (x1 + 1) (replicate count c) row row_is (law.filled count c blank) is.first is.last
            (omega (arith, len, order))
      ])

  -- rows with a border at the new width, laid over new ones
  laid : (cols : ℕ) (c : Cell) → Blank c → (above : List (List Cell)) (n : ℕ)
      → All (IsParted Row cols) above
      → All Row (rows_laid_over above (replicate n (replicate cols c)))
  laid cols c blank [] n all = fresh_rows n cols c blank
  laid cols c blank (row ∷ above) zero all = All-nil Row
  laid cols c blank (row ∷ above) (suc n) all =
      let under = replicate cols c in
      let top : IsParted Row cols row = All-head (IsParted Row cols) row above all in
      All-cons Row (laid_over row under) (rows_laid_over above (replicate n under))
      (law.joined (take (length under) row) (drop (length row) under)
      (subst (λ len. Row (take len row)) (sym (length-replicate cols c)) (law.taken cols row top.0 top.1))
      (subst Row (sym (drop-replicate (length row) cols c)) (law.filled (cols - length row) c blank)))
      (laid cols c blank above n (All-tail (IsParted Row cols) row above all))

  resizing : (s : GridView) (rows cols skip : ℕ) (c : Cell) → Each Row s → Blank c
      → Each Row (resized_grid (split_wide_rows cols s) (filled_grid rows cols c) skip)
  resizing s rows cols skip c h blank =
      laid cols c blank (drop skip (map (split_wide cols) s.cells)) rows
      (All-drop (IsParted Row cols) skip (map (split_wide cols) s.cells)
      (All-map (IsParted Row cols) (split_wide cols) s.cells
      (All-weaker Row (λ row. IsParted Row cols (split_wide cols row)) (λ row is. (law.split cols row is, split_clear cols row is)) s.cells h)))

  scrolling_up : (s : GridView) (top bottom n : ℕ) (c : Cell) → Each Row s → Blank c
      → Each Row (scrolled_up s top bottom n c)
  scrolling_up s top bottom n c h blank =
      let height = bottom + 1 - top in
      let region = take height (drop top s.cells) in
      let count = min n height in
      let region_is : All Row region = All-take Row height (drop top s.cells) (All-drop Row top s.cells h) in
      All-append Row (take top s.cells)
      ((drop count region ++ replicate count (replicate s.cols c)) ++ drop (bottom + 1) s.cells)
      (All-take Row top s.cells h)
      (All-append Row (drop count region ++ replicate count (replicate s.cols c)) (drop (bottom + 1) s.cells)
      (All-append Row (drop count region) (replicate count (replicate s.cols c))
      (All-drop Row count region region_is) (fresh_rows count s.cols c blank))
      (All-drop Row (bottom + 1) s.cells h))

  scrolling_down : (s : GridView) (top bottom n : ℕ) (c : Cell) → Each Row s → Blank c
      → Each Row (scrolled_down s top bottom n c)
  scrolling_down s top bottom n c h blank =
      let height = bottom + 1 - top in
      let region = take height (drop top s.cells) in
      let count = min n height in
      let kept = take (length region - count) region in
      let region_is : All Row region = All-take Row height (drop top s.cells) (All-drop Row top s.cells h) in
      All-append Row (take top s.cells)
      ((replicate count (replicate s.cols c) ++ kept) ++ drop (bottom + 1) s.cells)
      (All-take Row top s.cells h)
      (All-append Row (replicate count (replicate s.cols c) ++ kept) (drop (bottom + 1) s.cells)
      (All-append Row (replicate count (replicate s.cols c)) kept
      (fresh_rows count s.cols c blank) (All-take Row (length region - count) region region_is))
      (All-drop Row (bottom + 1) s.cells h))

  pub edits_of : Edits Blank Row
  edits_of = record {
    drawing = drawing;
    inserting = inserting;
    deleting = deleting;
    erasing = erasing;
    scrolling_up = scrolling_up;
    scrolling_down = scrolling_down;
    filling = fresh_rows;
    resizing = resizing;
  }
