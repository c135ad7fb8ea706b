-- Rows and grids of which no cell is the right half of a character: no border splits a character there, and
-- the edits keep them so.
use Rattle.std.proofs.Common.{◌≡◌, ℕ, zero, suc, ◌+◌, ◌-◌, ◌<◌, min, Bool, true, false, List, [], ◌∷◌, ◌++◌, length, map, take, drop, set, get_or, replicate, inl, inr, refl, sym, subst, ap, ◌∙◌, arith}
use Rattle.std.specs.List.{list_all}
use Rattle.std.specs.Prelude.{All, not, ◌==◌}
use Rattle.std.proofs.lemmas.Bool.{and_from, and_parts, cases_lt, cond-false, eqb-true, false≢true}
use Rattle.std.proofs.lemmas.Bool.Decides.{nat_tests}
use Rattle.std.proofs.lemmas.List.{get_or_past, set_past, take-append-drop}
use Rattle.std.proofs.lemmas.List.Elements.{All-append, All-drop, All-head, All-map, All-nil, All-cons, All-replicate, All-set, All-tail, All-take, All-weaker}
use Rattle.vt_cells.specs.Width.{half, is_half, is_plain}
use Rattle.vt_cells.specs.declared.cell.Cell.{Cell}
use Rattle.vt_grid.specs.Grid.{GridView, filled_grid, overlaid, row_at, scrolled_up, with_row, with_run}
use Rattle.vt_grid.specs.Halves.{IsNarrow, IsNarrowRow, split_pair, split_wide, split_wide_at, split_wide_between, space_in_colours}
use Rattle.vt_grid.specs.StoredRow.{IsNarrowLine, StoredRow, cells_of, with_prefix_of, cut_at, with_stored_inserted, stored_up_to, with_stored_deleted, with_stored_cells}
use Rattle.vt_grid.specs.Ring.{AreNarrow, RowSlot, blank_slot, cut_all, rows_by_number, no_slot, slot_at}
use Rattle.vt_grid.specs.Store.{Store, grid_view}

abbrev One : Cell → Type 0
One c = is_half c ≡ false

-- no pair is parted
pair_same : (cells : List Cell) → IsNarrowRow cells → split_pair cells ≡ cells
pair_same [] h = refl
pair_same (a ∷ []) h = refl
pair_same (a ∷ b ∷ cells) h =
    cond-false (is_half b) (space_in_colours a ∷ space_in_colours b ∷ cells) (a ∷ b ∷ cells)
    (All-head One b cells (All-tail One a (b ∷ cells) h))

row_same : (x : ℕ) (row : List Cell) → IsNarrowRow row → split_wide x row ≡ row
row_same zero row h = refl
row_same (suc x) row h =
    ap (λ (cells : List Cell). take x row ++ cells) (pair_same (drop x row) (All-drop One x row h))
    ∙ take-append-drop x row

row_narrow : (s : GridView) (y : ℕ) → IsNarrow s → IsNarrowRow (row_at s y)
row_narrow s y h =
    elim (cases_lt y (length s.cells)) [
      | inl within ↦ h y [] within
      | inr past ↦ subst IsNarrowRow (sym (get_or_past s.cells y [] past)) (All-nil One)
    ]

-- a list whose element is set to what it is
set_same : {A : Type 0} (xs : List A) (y : ℕ) (none : A) → set xs y (get_or xs y none) ≡ xs
set_same [] y none = refl
set_same (x ∷ xs) zero none = refl
set_same (x ∷ xs) (suc y) none = ap (λ ys. x ∷ ys) (set_same xs y none)

-- a border changes nothing
pub parted_same : (s : GridView) (y x : ℕ) → IsNarrow s → s ≡ split_wide_at s y x
parted_same s y x h =
    sym (ap (λ (row : List Cell). with_row s y row) (row_same x (row_at s y) (row_narrow s y h))
    ∙ ap (λ (rows : List (List Cell)). record s { cells = rows }) (set_same s.cells y []))

-- two borders neither
pub parted_between_same : (s : GridView) (y x end : ℕ) → IsNarrow s → s ≡ split_wide_between s y x end
parted_between_same s y x end h =
    let first : s ≡ split_wide_at s y x = parted_same s y x h in
    let second : split_wide_at s y x ≡ split_wide_at (split_wide_at s y x) y end =
    subst (λ (t : GridView). t ≡ split_wide_at t y end) first (parted_same s y end h) in
    first ∙ second

row_kept : (s : GridView) (y : ℕ) (row : List Cell) → IsNarrow s → IsNarrowRow row → IsNarrow (with_row s y row)
row_kept s y row h row_is = All-set IsNarrowRow s.cells y row row_is h

overlaid_narrow : (x : ℕ) (cells row : List Cell) → IsNarrowRow row → IsNarrowRow cells
    → IsNarrowRow (overlaid x cells row)
overlaid_narrow x cells row h cells_are =
    All-append One (take x row) (cells ++ drop (x + length cells) row) (All-take One x row h)
    (All-append One cells (drop (x + length cells) row) cells_are (All-drop One (x + length cells) row h))

pub run_narrow : (s : GridView) (y x : ℕ) (cells : List Cell) → IsNarrow s → IsNarrowRow cells
    → IsNarrow (with_run s y x cells)
run_narrow s y x cells h cells_are =
    row_kept s y (overlaid x cells (row_at s y)) h (overlaid_narrow x cells (row_at s y) (row_narrow s y h) cells_are)

pub repeated : (n : ℕ) (c : Cell) → is_half c ≡ false → IsNarrowRow (replicate n c)
repeated n c one = All-replicate One n c one

fresh_rows : (n cols : ℕ) (c : Cell) → is_half c ≡ false → All IsNarrowRow (replicate n (replicate cols c))
fresh_rows n cols c one = All-replicate IsNarrowRow n (replicate cols c) (repeated cols c one)

pub filled_narrow : (rows cols : ℕ) (c : Cell) → is_half c ≡ false → IsNarrow (filled_grid rows cols c)
filled_narrow rows cols c one = fresh_rows rows cols c one

pub scrolled_up_narrow : (s : GridView) (top bottom n : ℕ) (c : Cell) → IsNarrow s → is_half c ≡ false
    → IsNarrow (scrolled_up s top bottom n c)
scrolled_up_narrow s top bottom n c h one =
    let height : ℕ = bottom + 1 - top in
    let region : List (List Cell) = take height (drop top s.cells) in
    let count : ℕ = min n height in
    let region_is : All IsNarrowRow region =
    All-take IsNarrowRow height (drop top s.cells) (All-drop IsNarrowRow top s.cells h) in
    All-append IsNarrowRow (take top s.cells)
    ((drop count region ++ replicate count (replicate s.cols c)) ++ drop (bottom + 1) s.cells)
    (All-take IsNarrowRow top s.cells h)
    (All-append IsNarrowRow (drop count region ++ replicate count (replicate s.cols c)) (drop (bottom + 1) s.cells)
    (All-append IsNarrowRow (drop count region) (replicate count (replicate s.cols c))
    (All-drop IsNarrowRow count region region_is) (fresh_rows count s.cols c one))
    (All-drop IsNarrowRow (bottom + 1) s.cells h))

-- stored rows: each edit of one, where what comes in is no half
pub with_stored_cells_narrow : (x : ℕ) (cells : List Cell) (line : StoredRow) → IsNarrowRow cells → IsNarrowLine line
    → IsNarrowLine (with_stored_cells x cells line)
with_stored_cells_narrow x cells line cells_are h = (overlaid_narrow x cells line.stored h.0 cells_are, h.1)

pub stored_up_to_narrow : (x : ℕ) (line : StoredRow) → IsNarrowLine line → IsNarrowLine (stored_up_to x line)
stored_up_to_narrow x line h =
    let more : ℕ = x - length line.stored in (
      All-append One line.stored (replicate more line.rest) h.0 (repeated more line.rest h.1),
      h.1,
    )

pub cut_narrow : (len : ℕ) (c : Cell) (line : StoredRow) → is_half c ≡ false → IsNarrowLine line
    → IsNarrowLine (cut_at len c line)
cut_narrow len c line one h = (All-take One len line.stored h.0, one)

pub inserted_narrow : (cols x count : ℕ) (c : Cell) (line : StoredRow) → is_half c ≡ false → IsNarrowLine line
    → IsNarrowLine (with_stored_inserted cols x count c line)
inserted_narrow cols x count c line one h =
    let row : List Cell = line.stored in (
      All-take One cols (take x row ++ (replicate count c ++ drop x row))
          (All-append One (take x row) (replicate count c ++ drop x row) (All-take One x row h.0)
          (All-append One (replicate count c) (drop x row) (repeated count c one) (All-drop One x row h.0))),
      h.1,
    )

pub removed_narrow : (x count : ℕ) (c : Cell) (line : StoredRow) → is_half c ≡ false → IsNarrowLine line
    → IsNarrowLine (with_stored_deleted x count c line)
removed_narrow x count c line one h =
    let row : List Cell = line.stored in (
      All-append One (take x row) (drop (x + count) row) (All-take One x row h.0)
          (All-drop One (x + count) row h.0),
      one,
    )

pub with_prefix_of_narrow : (count : ℕ) (over line : StoredRow) → IsNarrowLine over → IsNarrowLine line
    → IsNarrowLine (with_prefix_of count over line)
with_prefix_of_narrow count over line over_is h =
    with_stored_cells_narrow 0 (take count (cells_of count over)) line
    (All-take One count (cells_of count over) (stored_up_to_narrow count over over_is).0) h

-- a row that is changed in its place
pub changed_narrow : (shelves : List RowSlot) (p : ℕ) (old new : RowSlot) (change : StoredRow → StoredRow)
    → old ≡ get_or shelves p old → new.line ≡ change old.line
    → ((line : StoredRow) → IsNarrowLine line → IsNarrowLine (change line)) → AreNarrow shelves
    → AreNarrow (set shelves p new)
changed_narrow shelves p old new change old_is new_is kept h =
    elim (cases_lt p (length shelves)) [
      | inl within ↦
          All-set (λ shelf. IsNarrowLine shelf.line) shelves p new
          (subst IsNarrowLine (sym new_is)
          (kept old.line (subst (λ (s : RowSlot). IsNarrowLine s.line) (sym old_is) (h p old within))))
          h
      | inr past ↦ subst AreNarrow (sym (set_past shelves p new past)) h
    ]

-- the row that a number names, or the blank one
slot_narrow : (shelves : List RowSlot) → AreNarrow shelves → (p : ℕ) → IsNarrowLine (slot_at shelves p).line
slot_narrow shelves h p =
    elim (cases_lt p (length shelves)) [
      | inl within ↦ h p no_slot within
      | inr past ↦
          subst (λ (s : RowSlot). IsNarrowLine s.line) (sym (get_or_past shelves p no_slot past))
          (All-nil One, refl)
    ]

pub rows_by_number_narrow : (order : List ℕ) (shelves : List RowSlot) → AreNarrow shelves
    → All IsNarrowLine (rows_by_number shelves order)
rows_by_number_narrow order shelves h =
    All-map IsNarrowLine (λ p. (slot_at shelves p).line) order
    (λ y d within. slot_narrow shelves h (get_or order y d))

-- rows that are made blank, by their numbers or all
pub cut_all_narrow : (order : List ℕ) (c : Cell) (shelves : List RowSlot) → is_half c ≡ false
    → AreNarrow shelves → AreNarrow (cut_all order c shelves)
cut_all_narrow [] c shelves one h = h
cut_all_narrow (p ∷ order) c shelves one h =
    let slot : RowSlot = blank_slot c (slot_at shelves p) in
    cut_all_narrow order c (set shelves p slot) one
    (All-set (λ shelf. IsNarrowLine shelf.line) shelves p slot (All-nil One, one) h)

pub blank_narrow : (c : Cell) (shelves : List RowSlot) → is_half c ≡ false
    → AreNarrow (map (blank_slot c) shelves)
blank_narrow c shelves one =
    All-map (λ shelf. IsNarrowLine shelf.line) (blank_slot c) shelves (λ p d within. (All-nil One, one))

-- the grid that rows show
pub shown_narrow : (s : Store) → All IsNarrowLine s.lines → IsNarrow (grid_view s)
shown_narrow s h =
    All-map IsNarrowRow (cells_of s.cols) s.lines
    (All-weaker IsNarrowLine (λ line. IsNarrowRow (cells_of s.cols line))
    (λ line line_is. (stored_up_to_narrow s.cols line line_is).0) s.lines h)

-- the cells of codes of which none is that of a half
pub cells_narrow : {A : Type 0} (code_of : A → ℕ) (codes : List A) (attr : ℕ)
    → list_all (λ c. not (code_of c == half)) codes ≡ true
    → IsNarrowRow (map (λ c. record { code = code_of c; attr = attr }) codes)
cells_narrow {A = A} code_of codes attr h =
    All-map One (λ c. record { code = code_of c; attr = attr }) codes (each codes h)
  where
    not_true : (test : Bool) → not test ≡ true → test ≡ false
    not_true true is = absurd (false≢true is)
    not_true false is = refl

    each : (cs : List A) → list_all (λ c. not (code_of c == half)) cs ≡ true
        → All (λ c. (code_of c == half) ≡ false) cs
    each [] is = All-nil (λ c. (code_of c == half) ≡ false)
    each (c ∷ cs) is =
        let p = and_parts (not (code_of c == half)) (list_all (λ other. not (code_of other == half)) cs) is in
        All-cons (λ other. (code_of other == half) ≡ false) c cs (not_true (code_of c == half) p.0) (each cs p.1)

-- codes that are none of a half: those of plain characters, and bytes
pub plain_codes_narrow : (codes : List ℕ) → list_all is_plain codes ≡ true
    → list_all (λ c. not (c == half)) codes ≡ true
plain_codes_narrow [] h = refl
plain_codes_narrow (code ∷ codes) h =
    let p = and_parts (is_plain code) (list_all is_plain codes) h in
    and_from (not (code == half)) (list_all (λ c. not (c == half)) codes)
    (ap not (by (code == half) refl p.0)) (plain_codes_narrow codes p.1)
  where
    by : (test : Bool) → (code == half) ≡ test → is_plain code ≡ true → (code == half) ≡ false
    by false other is = other
    by true same is = absurd (false≢true (ap is_plain (sym (eqb-true code half same)) ∙ is))

pub bytes_narrow : (bytes : List ℕ) → ((i : ℕ) → get_or bytes i 0 < 256)
    → list_all (λ c. not (c == half)) bytes ≡ true
bytes_narrow [] low = refl
bytes_narrow (b ∷ bytes) low =
    let small : b < 256 = low 0 in
    let other : (b == half) ≡ false = grind (arith, nat_tests, small) in
    and_from (not (b == half)) (list_all (λ c. not (c == half)) bytes) (ap not other)
    (bytes_narrow bytes (λ i. low (suc i)))
