-- The rows of a grid as they are stored, and the result of each call.
use Rattle.std.specs.Prelude.{◌≡◌, ℕ, ◌+◌, ◌-◌, ◌≤◌, ◌==◌, if◌then◌else◌, min, List, ◌++◌, length, map, take, drop, replicate, slice_set, slice_index_or, All}
use Rattle.vt_grid.specs.Grid.{GridView, grid_view_of}
use Rattle.vt_grid.specs.StoredRow.{StoredRow, blank_row, cells_of}
use Rattle.vt_cells.specs.declared.cell.Cell.{Cell}

-- the number of rows and of columns, and the rows from top to bottom
pub record Store : Type 0 where
  pub rows : ℕ
  pub cols : ℕ
  pub lines : List StoredRow

-- the row for a number outside the store; no clause depends on it
abbrev pub no_row : StoredRow
no_row = blank_row (record { code = 0; attr = 0 })

-- the row at y, counted from 0
abbrev pub stored_row : Store → ℕ → StoredRow
stored_row s y = slice_index_or s.lines y no_row

-- there are as many rows as the number gives, and no row stores more cells than there are columns
pub record IsFit (s : Store) : Type 0 where
  pub tall : length s.lines ≡ s.rows
  pub short : All (λ line. length line.stored ≤ s.cols) s.lines

-- every row stores no cell, and each cell is c
abbrev pub blank_store : ℕ → ℕ → Cell → Store
blank_store rows cols c =
    record { rows = rows; cols = cols; lines = replicate rows (blank_row c) }

-- one row is this one, and all others are unchanged
abbrev pub with_stored_row : Store → ℕ → StoredRow → Store
with_stored_row s y line = record s { lines = slice_set s.lines y line }

-- the elements move up by n around the end
abbrev pub rotation_by : {A : Type 0} → ℕ → List A → List A
rotation_by n xs = drop n xs ++ take n xs

-- the elements top to bottom, both included, move up by n around their end; all others stay
abbrev pub part_turned : {A : Type 0} → ℕ → ℕ → ℕ → List A → List A
part_turned top bottom n xs =
    take top xs
    ++ (rotation_by n (take (bottom + 1 - top) (drop top xs))
    ++ drop (bottom + 1) xs)

-- so many elements from this place on are all x. No public clause names this
abbrev pub with_run_of : {A : Type 0} → ℕ → ℕ → A → List A → List A
with_run_of from count x xs = take from xs ++ (replicate count x ++ drop (from + count) xs)

-- the grid that the rows show
abbrev pub grid_view : Store → GridView
grid_view s = grid_view_of s.rows s.cols (map (cells_of s.cols) s.lines)

-- the most steps of a scroll by n: one for each row that comes in, and one more if the region is the whole
-- grid, otherwise one more for each row of the region
abbrev pub scroll_steps : ℕ → ℕ → ℕ → ℕ → ℕ
scroll_steps rows top bottom n =
    let height = bottom + 1 - top in
    min n height + (if height == rows then 1 else height)
