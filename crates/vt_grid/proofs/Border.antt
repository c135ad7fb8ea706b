-- A row that is split before a column.
use Rattle.std.proofs.Common.{◌≡◌, ◌≢◌, ℕ, zero, suc, ◌<◌, ◌≤◌, Bool, true, false, List, [], ◌∷◌, ◌++◌, length, take, drop, set, get_or, subst, inl, inr, ◌⊎◌, refl, sym, ap, ◌∙◌, arith, if◌then◌else◌}
use Rattle.std.proofs.lemmas.Bool.{cases_lt, cases_eq, cond-true, cond-false}
use Rattle.std.proofs.lemmas.List.{get_or-set_same, get_or-set_other, length-set, get_or_default, get_or_past, set_past}
use Rattle.vt_cells.specs.Width.{is_half}
use Rattle.vt_grid.specs.Halves.{split_pair, split_wide, space_in_colours}
use Rattle.vt_cells.specs.declared.cell.Cell.{Cell}

-- a cell outside a row
abbrev pub no_cell : Cell
no_cell = record { code = 0; attr = 0 }

-- the cell in column x is a half
abbrev pub half_at : ℕ → List Cell → Bool
half_at x row = is_half (get_or row x no_cell)

border_none : (x : ℕ) (row : List Cell) → half_at (suc x) row ≡ false
    → take x row ++ split_pair (drop x row) ≡ row
border_none zero [] h = refl
border_none zero (a ∷ []) h = refl
border_none zero (a ∷ b ∷ row) h =
    cond-false (is_half b) (space_in_colours a ∷ space_in_colours b ∷ row) (a ∷ b ∷ row) h
border_none (suc x) [] h = refl
border_none (suc x) (c ∷ row) h = ap (λ cells. c ∷ cells) (border_none x row h)

-- no half stands behind the border: nothing changes
pub split_wide_none : (x : ℕ) (row : List Cell) → half_at x row ≡ false → split_wide x row ≡ row
split_wide_none zero row h = refl
split_wide_none (suc x) row h = border_none x row h

-- both halves become spaces
abbrev pub both_spaced : ℕ → List Cell → List Cell
both_spaced x row =
    set (set row x (space_in_colours (get_or row x no_cell))) (suc x) (space_in_colours (get_or row (suc x) no_cell))

pub split_wide_both : (x : ℕ) (row : List Cell) → half_at (suc x) row ≡ true
    → split_wide (suc x) row ≡ both_spaced x row
split_wide_both zero [] h = cc
split_wide_both zero (a ∷ []) h = cc
split_wide_both zero (a ∷ b ∷ row) h =
    cond-true (is_half b) (space_in_colours a ∷ space_in_colours b ∷ row) (a ∷ b ∷ row) h
split_wide_both (suc x) [] h = cc
split_wide_both (suc x) (c ∷ row) h = ap (λ cells. c ∷ cells) (split_wide_both x row h)

-- what is known of a parted row
abbrev Parts : ℕ → List Cell → Type 0
Parts x row =
    (split_wide x row ≡ row) ⊎ ((k : ℕ) × (x ≡ suc k) × (half_at x row ≡ true) × (split_wide x row ≡ both_spaced k row))

parts : (x : ℕ) (row : List Cell) → Parts x row
parts zero row = inl refl
parts (suc x) row = by (half_at (suc x) row) refl
  where
    by : (test : Bool) → half_at (suc x) row ≡ test → Parts (suc x) row
    by true is = inr (x, refl, is, split_wide_both x row is)
    by false is = inl (split_wide_none (suc x) row is)

pub length-split_wide : (x : ℕ) (row : List Cell) → length (split_wide x row) ≡ length row
length-split_wide x row =
    elim (parts x row) [
      | inl same ↦ ap length same
      | inr both ↦
          ap length both.3
          ∙ length-set (set row both.0 (space_in_colours (get_or row both.0 no_cell))) (suc both.0) (space_in_colours (get_or row (suc both.0) no_cell))
          ∙ length-set row both.0 (space_in_colours (get_or row both.0 no_cell))
    ]

-- cells off the border stay
pub split_wide_away : (x k : ℕ) (row : List Cell) (d : Cell) → suc k ≢ x → k ≢ x
    → get_or (split_wide x row) k d ≡ get_or row k d
split_wide_away x k row d other there =
    elim (parts x row) [
      | inl same ↦ ap (λ (cells : List Cell). get_or cells k d) same
      | inr both ↦
          ap (λ (cells : List Cell). get_or cells k d) both.3
          ∙ get_or-set_other (set row both.0 (space_in_colours (get_or row both.0 no_cell))) (suc both.0) k (space_in_colours (get_or row (suc both.0) no_cell)) d
          (λ (is : k ≡ suc both.0). there (is ∙ sym both.1))
          ∙ get_or-set_other row both.0 k (space_in_colours (get_or row both.0 no_cell)) d
          (λ (is : k ≡ both.0). other (ap suc is ∙ sym both.1))
    ]

-- a half is a space behind the border
abbrev unhalved : Cell → Cell
unhalved c = if is_half c then space_in_colours c else c

-- the cell behind the border
pub split_wide_here : (x : ℕ) (row : List Cell) (d : Cell) → 0 < x → x < length row
    → get_or (split_wide x row) x d ≡ unhalved (get_or row x d)
split_wide_here zero row d some within = absurd (omega (arith, some))
split_wide_here (suc x) row d some within = by (half_at (suc x) row) refl
  where
    now : get_or row (suc x) no_cell ≡ get_or row (suc x) d
    now = get_or_default row (suc x) no_cell d within

    by : (test : Bool) → half_at (suc x) row ≡ test
        → get_or (split_wide (suc x) row) (suc x) d ≡ unhalved (get_or row (suc x) d)
    by true is =
        let left = space_in_colours (get_or row x no_cell) in
        ap (λ (cells : List Cell). get_or cells (suc x) d) (split_wide_both x row is)
        ∙ get_or-set_same (set row x left) (suc x) (space_in_colours (get_or row (suc x) no_cell)) d
        (omega (arith, within, length-set row x left))
        ∙ ap space_in_colours now
        ∙ sym (cond-true (is_half (get_or row (suc x) d)) (space_in_colours (get_or row (suc x) d)) (get_or row (suc x) d) (ap is_half (sym now) ∙ is))
    by false is =
        ap (λ (cells : List Cell). get_or cells (suc x) d) (split_wide_none (suc x) row is)
        ∙ sym (cond-false (is_half (get_or row (suc x) d)) (space_in_colours (get_or row (suc x) d)) (get_or row (suc x) d) (ap is_half (sym now) ∙ is))

unhalved_none : (c : Cell) → is_half (unhalved c) ≡ false
unhalved_none c = by (is_half c) refl
  where
    by : (test : Bool) → is_half c ≡ test → is_half (unhalved c) ≡ false
    by true is = ap is_half (cond-true (is_half c) (space_in_colours c) c is)
    by false is = ap is_half (cond-false (is_half c) (space_in_colours c) c is) ∙ is

-- no half stands behind the border, which is none at column 0
pub split_wide_clear : (x : ℕ) (row : List Cell) → 0 < x → half_at x (split_wide x row) ≡ false
split_wide_clear x row some =
    elim (cases_lt x (length row)) [
      | inl within ↦ ap is_half (split_wide_here x row no_cell some within) ∙ unhalved_none (get_or row x no_cell)
      | inr past ↦ ap is_half (get_or_past (split_wide x row) x no_cell (omega (arith, past, length-split_wide x row)))
    ]

-- a row is the same behind a border where it was
pub split_wide_same : (x k : ℕ) (row other : List Cell) (d : Cell) → x ≤ k → k < length row → k < length other
    → get_or row k d ≡ get_or other k d → get_or (split_wide x row) k d ≡ get_or (split_wide x other) k d
split_wide_same zero k row other d from within in_other same = same
split_wide_same (suc x) k row other d from within in_other same =
    elim (cases_eq k (suc x)) [
      | inl here ↦
          subst (λ n. get_or (split_wide (suc x) row) n d ≡ get_or (split_wide (suc x) other) n d) (sym here)
          (split_wide_here (suc x) row d (omega arith) (omega (arith, within, here))
          ∙ ap unhalved (subst (λ n. get_or row n d ≡ get_or other n d) here same)
          ∙ sym (split_wide_here (suc x) other d (omega arith) (omega (arith, in_other, here))))
      | inr away ↦
          split_wide_away (suc x) k row d (λ (is : suc k ≡ suc x). away (omega (arith, is, from))) away
          ∙ same
          ∙ sym (split_wide_away (suc x) k other d (λ (is : suc k ≡ suc x). away (omega (arith, is, from))) away)
    ]

-- past the row's end there is no border
pub split_wide_past : (x : ℕ) (row : List Cell) → length row ≤ x → split_wide x row ≡ row
split_wide_past x row past = split_wide_none x row (ap is_half (get_or_past row x no_cell past))

-- cells that are none stay none
pub split_wide_fewer : (x k : ℕ) (row : List Cell) → half_at k row ≡ false → half_at k (split_wide x row) ≡ false
split_wide_fewer x k row none =
    elim (parts x row) [
      | inl same ↦ ap (half_at k) same ∙ none
      | inr both ↦
          ap (half_at k) both.3
          ∙ set-none (suc both.0) (space_in_colours (get_or row (suc both.0) no_cell)) (set row both.0 (space_in_colours (get_or row both.0 no_cell))) refl
          (set-none both.0 (space_in_colours (get_or row both.0 no_cell)) row refl none)
    ]
  where
    set-none : (i : ℕ) (c : Cell) (cells : List Cell) → is_half c ≡ false → half_at k cells ≡ false
        → half_at k (set cells i c) ≡ false
    set-none i c cells is before =
        elim (cases_eq k i) [
          | inl here ↦
              elim (cases_lt i (length cells)) [
                | inl within ↦
                    subst (λ n. half_at n (set cells i c) ≡ false) (sym here)
                    (ap is_half (get_or-set_same cells i c no_cell within) ∙ is)
                | inr past ↦ ap (half_at k) (set_past cells i c past) ∙ before
              ]
          | inr away ↦ ap is_half (get_or-set_other cells i k c no_cell away) ∙ before
        ]
