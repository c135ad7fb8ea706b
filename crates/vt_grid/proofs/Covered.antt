-- Rows that take the first cells of others.
use Rattle.std.proofs.Common.{◌≡◌, ℕ, suc, ◌<◌, ◌≤◌, List, length, take, set, Some, inl, inr, sym, ap, ◌∙◌, arith, rules}
use Rattle.std.specs.Prelude.{slice_get}
use Rattle.std.proofs.lemmas.Bool.{cases_eq}
use Rattle.std.proofs.lemmas.List.{places, same_lists, get_or-set_other, get_or-set_same, length-set, length-take-le}
use Rattle.std.proofs.lemmas.Option.{get_or_from_slice_get}
use Rattle.vt_grid.proofs.Border.{length-split_wide, split_wide_away}
use Rattle.vt_grid.proofs.Shown.{cells_of-with_stored_cells, row_at_shown, shown_changed}
use Rattle.vt_grid.specs.Grid.{overlaid, row_at, with_run}
use Rattle.vt_grid.specs.Halves.{split_wide}
use Rattle.vt_grid.specs.StoredRow.{StoredRow, cells_of, with_prefix_of, cut_at}
use Rattle.vt_grid.specs.Store.{IsFit, Store, stored_row, no_row, grid_view, with_stored_row}
use Rattle.vt_cells.specs.declared.cell.Cell.{Cell}

-- a row's first cells, among more of them
front_same : (count wide : ℕ) (over : StoredRow) → count ≤ wide
    → take count (cells_of count over) ≡ take count (cells_of wide over)
front_same count wide over within =
    same_lists _ _ (search (rules, places)) (λ k d k_in. grind (arith, places))

-- the first cells of a row are those of another
cells_of-with_prefix_of : (cols wide count : ℕ) (over line : StoredRow) → length line.stored ≤ cols
    → count ≤ cols → count ≤ wide
    → cells_of cols (with_prefix_of count over line)
    ≡ overlaid 0 (take count (cells_of wide over)) (cells_of cols line)
cells_of-with_prefix_of cols wide count over line short in_cols in_wide =
    let cells = take count (cells_of count over) in
    let few : length cells ≤ count = search (rules, places) in
    cells_of-with_stored_cells cols 0 cells line (omega arith) short (omega (arith, few))
    ∙ ap (λ front. overlaid 0 front (cells_of cols line)) (front_same count wide over in_wide)

-- all cells of a row are those of another
cells_of_copied : (cols wide : ℕ) (over line : StoredRow) → length line.stored ≤ cols
    → length over.stored ≤ wide → cols ≤ wide
    → cells_of cols (cut_at cols over.rest over)
    ≡ overlaid 0 (take cols (cells_of wide over)) (cells_of cols line)
cells_of_copied cols wide over line short over_short within =
    same_lists _ _ (search (rules, places)) (λ k d k_in. grind (arith, places))

-- a row of a grid becomes one of another
pub shown_copy_row : (s old : Store) (y from : ℕ) → y < s.rows → from < old.rows → IsFit s
    → IsFit old → s.cols ≤ old.cols
    → grid_view (with_stored_row s y (cut_at s.cols (stored_row old from).rest (stored_row old from)))
    ≡ with_run (grid_view s) y 0 (take s.cols (row_at (grid_view old) from))
shown_copy_row s old y from y_in from_in fit old_fit within =
    let over = stored_row old from in
    let over_short : length over.stored ≤ old.cols = old_fit.short from no_row (omega (arith, old_fit.tall)) in
    shown_changed s y (λ line. cut_at s.cols over.rest over)
    (overlaid 0 (take s.cols (cells_of old.cols over))) y_in fit
    (λ line short. cells_of_copied s.cols old.cols over line short over_short within)
    ∙ ap (λ row. with_run (grid_view s) y 0 (take s.cols row)) (sym (row_at_shown old from from_in old_fit))

-- a row of a grid takes the first cells of one of another
pub shown_cover_row : (s old : Store) (y from count : ℕ) → y < s.rows → from < old.rows → IsFit s
    → IsFit old → count ≤ s.cols → count ≤ old.cols
    → grid_view (with_stored_row s y (with_prefix_of count (stored_row old from) (stored_row s y)))
    ≡ with_run (grid_view s) y 0 (take count (row_at (grid_view old) from))
shown_cover_row s old y from count y_in from_in fit old_fit within in_old =
    let over = stored_row old from in
    shown_changed s y (with_prefix_of count over)
    (overlaid 0 (take count (cells_of old.cols over))) y_in fit
    (λ line short. cells_of-with_prefix_of s.cols old.cols count over line short within in_old)
    ∙ ap (λ row. with_run (grid_view s) y 0 (take count row)) (sym (row_at_shown old from from_in old_fit))

-- the last of a row's first cells, where the row is parted behind it or later
pub split_wide_last : (border last : ℕ) (row : List Cell) (cell : Cell) → last < border
    → last < length row → slice_get (split_wide border row) last ≡ Some cell
    → set (take (suc last) row) last cell ≡ take (suc last) (split_wide border row)
split_wide_last border last row cell before within at =
    let len : length (take (suc last) row) ≡ suc last = length-take-le (suc last) row (omega arith) in
    let whole = length-split_wide border row in
    same_lists _ _
    (length-set (take (suc last) row) last cell ∙ len
    ∙ sym (length-take-le (suc last) (split_wide border row) (omega (arith, whole))))
    (λ k d k_in.
    let k_last : k < suc last = omega (arith, k_in, length-set (take (suc last) row) last cell, len) in
    elim (cases_eq k last) [
      | inl here ↦
          rw here (get_or-set_same (take (suc last) row) last cell d (omega (arith, len))
          ∙ sym (grind (arith, places, get_or_from_slice_get (split_wide border row) last cell d at)))
      | inr other ↦
          get_or-set_other (take (suc last) row) last k cell d other
          ∙ grind (arith, places, split_wide_away border k row d (omega (arith, other, k_last)) (omega arith))
    ])
