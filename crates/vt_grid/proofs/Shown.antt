-- Stored rows, and the grid that they show.
use Rattle.std.proofs.Common.{◌≡◌, ℕ, ◌+◌, ◌-◌, ◌<◌, ◌≤◌, List, [], ◌∷◌, ◌++◌, map, length, take, drop, set, get_or, replicate, sym, ap, ◌∙◌, add-one, arith, rules, Some}
use Rattle.std.proofs.lemmas.List.{places, same_lists, length-map, get_or-map, map-set, length-append, length-replicate, get_or-replicate, set_split}
use Rattle.std.proofs.lemmas.List.Elements.{All-map, All-weaker}
use Rattle.std.proofs.lemmas.Option.{slice_get-get_or}
use Rattle.vt_grid.specs.Grid.{GridView, grid_view_of, row_at, IsFull, HasCellAt, filled_grid, overlaid, with_cell, with_row, with_run}
use Rattle.vt_grid.specs.StoredRow.{StoredRow, blank_row, cell_at, cells_of, with_stored_cells, stored_up_to, cut_at}
use Rattle.vt_grid.specs.Store.{Store, no_row, stored_row, with_stored_row, IsFit, blank_store, grid_view}
use Rattle.vt_cells.specs.declared.cell.Cell.{Cell}

pub length-cells_of : (cols : ℕ) (line : StoredRow) → length line.stored ≤ cols
    → length (cells_of cols line) ≡ cols
length-cells_of cols line short =
    omega (
      arith,
      length-append line.stored (replicate (cols - length line.stored) line.rest),
      length-replicate (cols - length line.stored) line.rest,
    )

pub get_or-cells_of : (cols : ℕ) (line : StoredRow) (x : ℕ) (d : Cell) → x < cols
    → get_or (cells_of cols line) x d ≡ cell_at line x
get_or-cells_of cols line x d x_in = grind (arith, places)

pub cells_of-with_stored_cells : (cols x : ℕ) (cells : List Cell) (line : StoredRow) → x ≤ length line.stored
    → length line.stored ≤ cols → x + length cells ≤ cols
    → cells_of cols (with_stored_cells x cells line) ≡ overlaid x cells (cells_of cols line)
cells_of-with_stored_cells cols x cells line place short in_cols =
    same_lists _ _ (search (rules, places)) (λ k d k_in. grind (arith, places))

pub cells_of-stored_up_to : (cols x : ℕ) (line : StoredRow) → length line.stored ≤ cols → x ≤ cols
    → cells_of cols (stored_up_to x line) ≡ cells_of cols line
cells_of-stored_up_to cols x line short in_cols =
    same_lists _ _ (search (rules, places)) (λ k d k_in. grind (arith, places))

pub cells_of-cut_at : (cols len : ℕ) (c : Cell) (line : StoredRow) → len ≤ length line.stored
    → length line.stored ≤ cols
    → cells_of cols (cut_at len c line) ≡ take len (cells_of cols line) ++ replicate (cols - len) c
cells_of-cut_at cols len c line in_stored short =
    same_lists _ _ (search (rules, places)) (λ k d k_in. grind (arith, places))

pub cells_of-blank_row : (cols : ℕ) (c : Cell) → cells_of cols (blank_row c) ≡ replicate cols c
cells_of-blank_row cols c =
    same_lists _ _ (search (rules, places)) (λ k d k_in. grind (arith, places))

pub map-replicate : {X Y : Type 0} (f : X → Y) (n : ℕ) (x : X)
    → map f (replicate n x) ≡ replicate n (f x)
map-replicate {Y = Y} f n x =
    same_lists _ _
    (length-map (replicate n x) f
    ∙ length-replicate n x
    ∙ sym (length-replicate n (f x)))
    (λ k d k_in.
    let within : k < n = omega (arith, length-map {B = Y} (replicate n x) f, length-replicate n x) in
    get_or-map f (replicate n x) k x d (omega (arith, length-replicate n x))
    ∙ ap f (get_or-replicate n k x x within)
    ∙ sym (get_or-replicate n k (f x) d within))

-- the row of a grid shows the stored row
pub row_at_shown : (s : Store) (y : ℕ) → y < s.rows → IsFit s
    → row_at (grid_view s) y ≡ cells_of s.cols (stored_row s y)
row_at_shown s y y_in fit =
    get_or-map (cells_of s.cols) s.lines y no_row [] (omega (arith, fit.tall))

-- the grid that stored rows show is full
pub IsFull_shown : (s : Store) → IsFit s → IsFull (grid_view s)
IsFull_shown s fit =
    record {
      tall = length-map s.lines (cells_of s.cols) ∙ fit.tall;
      wide =
          All-map (λ row. length row ≡ s.cols) (cells_of s.cols) s.lines
          (All-weaker (λ line. length line.stored ≤ s.cols)
          (λ line. length (cells_of s.cols line) ≡ s.cols)
          (λ line short. length-cells_of s.cols line short) s.lines fit.short);
    }

pub HasCellAt_shown : (s : Store) (y x : ℕ) → y < s.rows → x < s.cols → IsFit s
    → HasCellAt (grid_view s) y x (cell_at (stored_row s y) x)
HasCellAt_shown s y x y_in x_in fit =
    let line = stored_row s y in
    let short : length line.stored ≤ s.cols = fit.short y no_row (omega (arith, fit.tall)) in
    rw (row_at_shown s y y_in fit)
    (slice_get-get_or (cells_of s.cols line) x line.rest
    (omega (arith, length-cells_of s.cols line short))
    ∙ ap Some (get_or-cells_of s.cols line x line.rest x_in))

-- a new row, in the grid
pub shown_with_stored_row : (s : Store) (y : ℕ) (line : StoredRow)
    → grid_view (with_stored_row s y line)
    ≡ record (grid_view s) {
      cells = set (grid_view s).cells y (cells_of s.cols line);
    }
shown_with_stored_row s y line =
    ap (grid_view_of s.rows s.cols) (map-set (cells_of s.cols) s.lines y line)

pub shown_blank_store : (rows cols : ℕ) (c : Cell)
    → grid_view (blank_store rows cols c) ≡ filled_grid rows cols c
shown_blank_store rows cols c =
    ap (grid_view_of rows cols)
    (map-replicate (cells_of cols) rows (blank_row c)
    ∙ ap (replicate rows) (cells_of-blank_row cols c))

-- a row that is changed in the store is changed in the grid
pub shown_changed : (s : Store) (y : ℕ) (line : StoredRow → StoredRow) (row : List Cell → List Cell)
    → y < s.rows → IsFit s
    → ((l : StoredRow) → length l.stored ≤ s.cols
    → cells_of s.cols (line l) ≡ row (cells_of s.cols l))
    → grid_view (with_stored_row s y (line (stored_row s y)))
    ≡ with_row (grid_view s) y (row (row_at (grid_view s) y))
shown_changed s y line row y_in fit same =
    let old = stored_row s y in
    let short : length old.stored ≤ s.cols = fit.short y no_row (omega (arith, fit.tall)) in
    shown_with_stored_row s y (line old)
    ∙ ap (with_row (grid_view s) y)
    (same old short ∙ ap row (sym (row_at_shown s y y_in fit)))

-- a run of one cell
pub with_run_one : (s : GridView) (y x : ℕ) (c : Cell) → y < s.rows → x < s.cols → IsFull s
    → with_run s y x (c ∷ []) ≡ with_cell s y x c
with_run_one s y x c y_in x_in full =
    let row = row_at s y in
    let wide : length row ≡ s.cols = full.wide y [] (omega (arith, full.tall)) in
    let row_is : set row x c ≡ overlaid x (c ∷ []) row =
    set_split row x c (omega arith)
    ∙ ap (λ k. take x row ++ c ∷ drop k row) (sym (add-one x)) in
    ap (λ (now : List Cell). record s { cells = set s.cells y now }) (sym row_is)
