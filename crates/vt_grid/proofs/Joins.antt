-- Cells that are drawn in two stretches.
use Rattle.std.proofs.Common.{◌≡◌, ℕ, ◌+◌, ◌-◌, ◌<◌, ◌≤◌, false, List, [], ◌++◌, length, get_or, inl, inr, refl, sym, ap, ◌∙◌, arith, rules}
use Rattle.std.proofs.lemmas.Bool.{cases_lt}
use Rattle.std.proofs.lemmas.List.{places, same_lists, get_or-set_same, get_or_past, set-set, set_past, set-get_or, length-append, length-set, get_or_append_left, get_or-append_right}
use Rattle.vt_cells.specs.Width.{is_half}
use Rattle.vt_grid.proofs.Border.{half_at, length-split_wide, no_cell, split_wide_away, split_wide_clear, split_wide_none, split_wide_past, split_wide_same}
use Rattle.vt_grid.specs.Grid.{GridView, overlaid, row_at, with_row, with_run}
use Rattle.vt_grid.specs.Halves.{with_cells_at, split_wide, split_wide_between}
use Rattle.vt_grid.specs.Laws.{EndsAreWhole, StretchesJoin}
use Rattle.vt_cells.specs.declared.cell.Cell.{Cell}

-- cells drawn on a row
abbrev pub drawn_on : ℕ → List Cell → List Cell → List Cell
drawn_on x cells row = overlaid x cells (split_wide (x + length cells) (split_wide x row))

pub length-overlaid : (x : ℕ) (cells row : List Cell) → x + length cells ≤ length row
    → length (overlaid x cells row) ≡ length row
length-overlaid x cells row within = search (rules, places)

overlaid_before : (x k : ℕ) (cells row : List Cell) (d : Cell) → k < x → x ≤ length row
    → get_or (overlaid x cells row) k d ≡ get_or row k d
overlaid_before x k cells row d before within = grind (arith, places)

overlaid_behind : (x k : ℕ) (cells row : List Cell) (d : Cell) → x + length cells ≤ k
    → x ≤ length row → get_or (overlaid x cells row) k d ≡ get_or row k d
overlaid_behind x k cells row d behind within = grind (arith, places)

overlaid_among : (x k : ℕ) (cells row : List Cell) (d : Cell) → x ≤ k → k < x + length cells
    → x ≤ length row → get_or (overlaid x cells row) k d ≡ get_or cells (k - x) d
overlaid_among x k cells row d from to within = grind (arith, places)

-- behind the first stretch stands no half
clear_behind : (x : ℕ) (a row : List Cell) → 0 < length a → x + length a ≤ length row
    → half_at (x + length a) (drawn_on x a row) ≡ false
clear_behind x a row some within =
    let m = x + length a in
    let first = split_wide x row in
    let both = split_wide m first in
    let len : length both ≡ length row = length-split_wide m first ∙ length-split_wide x row in
    ap is_half (overlaid_behind x m a both no_cell (omega arith) (omega (arith, within, len)))
    ∙ split_wide_clear m first (omega (arith, some))

-- the places of a row on which a stretch and then another are laid, and those of both at once
places_join : (x e : ℕ) (a b first : List Cell) → 0 < length a → 0 < length b
    → e ≡ x + length a + length b → e ≤ length first → (k : ℕ) (d : Cell) → k < length first
    → get_or (overlaid (x + length a) b (split_wide e (overlaid x a (split_wide (x + length a) first)))) k d
    ≡ get_or (overlaid x (a ++ b) (split_wide e first)) k d
places_join x e a b first some_a some_b e_is within k d k_in =
    let m = x + length a in
    let both = split_wide m first in
    let under = overlaid x a both in
    let len_both : length both ≡ length first = length-split_wide m first in
    let len_under : length under ≡ length first =
    length-overlaid x a both (omega (arith, e_is, within, len_both)) ∙ len_both in
    let len_left : length (split_wide e under) ≡ length first = length-split_wide e under ∙ len_under in
    let len_right : length (split_wide e first) ≡ length first = length-split_wide e first in
    let len_ab : length (a ++ b) ≡ length a + length b = length-append a b in
    let left_in : m ≤ length (split_wide e under) = omega (arith, e_is, within, len_left) in
    let right_in : x ≤ length (split_wide e first) = omega (arith, e_is, within, len_right) in
    let both_in : x ≤ length both = omega (arith, e_is, within, len_both) in
    elim (cases_lt k x) [
      | inl before ↦
          overlaid_before m k b (split_wide e under) d (omega (arith, before)) left_in
          ∙ split_wide_away e k under d (omega (arith, before, e_is, some_b)) (omega (arith, before, e_is))
          ∙ overlaid_before x k a both d before both_in
          ∙ split_wide_away m k first d (omega (arith, before, some_a)) (omega (arith, before))
          ∙ sym (overlaid_before x k (a ++ b) (split_wide e first) d before right_in
          ∙ split_wide_away e k first d (omega (arith, before, e_is, some_b)) (omega (arith, before, e_is)))
      | inr from ↦
          elim (cases_lt k m) [
            | inl in_a ↦
                overlaid_before m k b (split_wide e under) d in_a left_in
                ∙ split_wide_away e k under d (omega (arith, in_a, e_is, some_b)) (omega (arith, in_a, e_is))
                ∙ overlaid_among x k a both d from in_a both_in
                ∙ sym (overlaid_among x k (a ++ b) (split_wide e first) d from (omega (arith, in_a, len_ab)) right_in
                ∙ get_or_append_left a b d (k - x) (omega (arith, from, in_a)))
            | inr past_a ↦
                elim (cases_lt k e) [
                  | inl in_b ↦
                      overlaid_among m k b (split_wide e under) d past_a (omega (arith, in_b, e_is)) left_in
                      ∙ sym (overlaid_among x k (a ++ b) (split_wide e first) d from (omega (arith, in_b, e_is, len_ab)) right_in
                      ∙ get_or-append_right a b (length a) (k - x) d refl (omega (arith, past_a))
                      ∙ ap (λ n. get_or b n d) (let n_is : k - x - length a ≡ k - m = omega arith in n_is))
                  | inr past ↦
                      let same : get_or under k d ≡ get_or first k d =
                      overlaid_behind x k a both d (omega (arith, past_a)) both_in
                      ∙ split_wide_away m k first d (omega (arith, past, e_is, some_b)) (omega (arith, past, e_is, some_b)) in
                      overlaid_behind m k b (split_wide e under) d (omega (arith, past, e_is)) left_in
                      ∙ split_wide_same e k under first d past (omega (arith, k_in, len_under)) k_in same
                      ∙ sym (overlaid_behind x k (a ++ b) (split_wide e first) d (omega (arith, past, e_is, len_ab)) right_in)
                ]
          ]
    ]

rows_join : (x : ℕ) (a b row : List Cell) → 0 < length a → 0 < length b
    → x + length (a ++ b) ≤ length row
    → drawn_on (x + length a) b (drawn_on x a row) ≡ drawn_on x (a ++ b) row
rows_join x a b row some_a some_b within =
    let m = x + length a in
    let e = m + length b in
    let first = split_wide x row in
    let both = split_wide m first in
    let under = overlaid x a both in
    let len_ab : length (a ++ b) ≡ length a + length b = length-append a b in
    let len_first : length first ≡ length row = length-split_wide x row in
    let len_both : length both ≡ length first = length-split_wide m first in
    let len_under : length under ≡ length first =
    length-overlaid x a both (omega (arith, within, len_ab, len_first, len_both)) ∙ len_both in
    let len_left : length (split_wide e under) ≡ length first = length-split_wide e under ∙ len_under in
    let len_right : length (split_wide e first) ≡ length first = length-split_wide e first in
    let clear : split_wide m under ≡ under =
    split_wide_none m under (clear_behind x a row some_a (omega (arith, within, len_ab))) in
    let end_is : x + length (a ++ b) ≡ e = omega (arith, len_ab) in
    let len_l : length (overlaid m b (split_wide e under)) ≡ length first =
    length-overlaid m b (split_wide e under) (omega (arith, within, len_ab, len_left, len_first)) ∙ len_left in
    let len_r : length (overlaid x (a ++ b) (split_wide e first)) ≡ length first =
    length-overlaid x (a ++ b) (split_wide e first) (omega (arith, within, len_right, len_first)) ∙ len_right in
    ap (λ (cells : List Cell). overlaid m b (split_wide e cells)) clear
    ∙ same_lists (overlaid m b (split_wide e under)) (overlaid x (a ++ b) (split_wide e first)) (len_l ∙ sym len_r)
    (λ k d k_in. places_join x e a b first some_a some_b refl (omega (arith, within, len_ab, len_first)) k d (omega (arith, k_in, len_l)))
    ∙ ap (λ n. overlaid x (a ++ b) (split_wide n first)) (sym end_is)

-- a row that is changed twice
pub edited : (s : GridView) (y : ℕ) (row : List Cell) (f : List Cell → List Cell) → y < length s.cells
    → with_row (with_row s y row) y (f (row_at (with_row s y row) y)) ≡ with_row s y (f row)
edited s y row f y_in =
    ap (λ (now : List Cell). with_row (with_row s y row) y (f now)) (get_or-set_same s.cells y row [] y_in)
    ∙ ap (λ (cells : List (List Cell)). record s { cells = cells }) (set-set s.cells y row (f row))

-- a row that is as it was
pub row_kept : (s : GridView) (y : ℕ) (row : List Cell) → row ≡ row_at s y → with_row s y row ≡ s
row_kept s y row same =
    ap (with_row s y) same
    ∙ ap (λ (cells : List (List Cell)). record s { cells = cells }) (set-get_or s.cells y [])

-- cells that are drawn change their row alone
pub with_cells_at_is : (s : GridView) (y x : ℕ) (cells : List Cell) → y < length s.cells
    → with_cells_at s y x cells ≡ with_row s y (drawn_on x cells (row_at s y))
with_cells_at_is s y x cells y_in =
    let e = x + length cells in
    let row = row_at s y in
    let first = split_wide x row in
    let two : split_wide_between s y x e ≡ with_row s y (split_wide e first) = edited s y first (split_wide e) y_in in
    ap (λ (t : GridView). with_run t y x cells) two
    ∙ edited s y (split_wide e first) (overlaid x cells) y_in

pub stretches_join : StretchesJoin
stretches_join s y x a b some_a some_b within =
    elim (cases_lt y (length s.cells)) [
      | inl y_in ↦
          let row = row_at s y in
          let m = x + length a in
          ap (λ (t : GridView). with_cells_at t y m b) (with_cells_at_is s y x a y_in)
          ∙ with_cells_at_is (with_row s y (drawn_on x a row)) y m b (omega (arith, y_in, length-set s.cells y (drawn_on x a row)))
          ∙ edited s y (drawn_on x a row) (drawn_on m b) y_in
          ∙ ap (with_row s y) (rows_join x a b row some_a some_b within)
          ∙ sym (with_cells_at_is s y x (a ++ b) y_in)
      | inr past ↦
          absurd (omega (arith, within, some_a, length-append a b, ap length (get_or_past s.cells y [] past)))
    ]

pub ends_are_whole : EndsAreWhole
ends_are_whole s y x full past =
    elim (cases_lt y (length s.cells)) [
      | inl y_in ↦
          row_kept s y (split_wide x (row_at s y)) (split_wide_past x (row_at s y) (omega (arith, past, full.wide y [] y_in)))
      | inr out ↦
          ap (λ (cells : List (List Cell)). record s { cells = cells }) (set_past s.cells y (split_wide x (row_at s y)) out)
    ]
