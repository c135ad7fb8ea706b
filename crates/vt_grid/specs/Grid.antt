-- A grid of cells as contracts see it: its rows, and the result of each edit.
use Rattle.std.specs.Prelude.{◌≡◌, ◌<◌, ◌≤◌, ℕ, ◌+◌, ◌-◌, min, List, [], ◌∷◌, ◌++◌, length, map, take, drop, replicate, slice_get, slice_set, slice_index_or, Some, All}
use Rattle.vt_cells.specs.declared.cell.Cell.{Cell}

-- the number of rows and of columns, and the rows from top to bottom, each as its cells from left to right
pub record GridView : Type 0 where
  pub rows : ℕ
  pub cols : ℕ
  pub cells : List (List Cell)

-- the grid with these rows
abbrev pub grid_view_of : ℕ → ℕ → List (List Cell) → GridView
grid_view_of rows cols cells = record { rows = rows; cols = cols; cells = cells }

-- the row at y, counted from 0
abbrev pub row_at : GridView → ℕ → List Cell
row_at s y = slice_index_or s.cells y []

-- there are as many rows, and each is as long, as the numbers give
pub record IsFull (s : GridView) : Type 0 where
  pub tall : length s.cells ≡ s.rows
  pub wide : All (λ row. length row ≡ s.cols) s.cells

-- the cell in row y and column x is c
abbrev pub HasCellAt : GridView → ℕ → ℕ → Cell → Type 0
HasCellAt s y x c = slice_get (row_at s y) x ≡ Some c

-- the grid has a cell in row y and column x
pub record HasPlace (s : GridView) (y x : ℕ) : Type 0 where
  pub row : y < s.rows
  pub column : x < s.cols

-- the grid has so many cells in row y from column x on
pub record HasCells (s : GridView) (y x count : ℕ) : Type 0 where
  pub row : y < s.rows
  pub columns : x + count ≤ s.cols

-- the grid has the rows top to bottom, both included
pub record HasRows (s : GridView) (top bottom : ℕ) : Type 0 where
  pub order : top ≤ bottom
  pub row : bottom < s.rows

-- every cell is c
abbrev pub filled_grid : ℕ → ℕ → Cell → GridView
filled_grid rows cols c = grid_view_of rows cols (replicate rows (replicate cols c))

-- one cell is c, and all others are unchanged
abbrev pub with_cell : GridView → ℕ → ℕ → Cell → GridView
with_cell s y x c = record s { cells = slice_set s.cells y (slice_set (row_at s y) x c) }

-- rows that move up by n: the first n are lost, and n fresh ones come in below
abbrev pub moved_up : ℕ → List Cell → List (List Cell) → List (List Cell)
moved_up n fresh rows = drop n rows ++ replicate n fresh

-- the rows top to bottom, both included, move up by n, or by their number if n is more; all other rows stay
abbrev pub scrolled_up : GridView → ℕ → ℕ → ℕ → Cell → GridView
scrolled_up s top bottom n c =
    let height = bottom + 1 - top in
    record s {
      cells =
          take top s.cells
          ++ (moved_up (min n height) (replicate s.cols c) (take height (drop top s.cells))
          ++ drop (bottom + 1) s.cells);
    }

-- the cells of these codes, each with this attribute
abbrev pub cells_of_codes : List ℕ → ℕ → List Cell
cells_of_codes codes attr = map (λ code. record { code = code; attr = attr }) codes

-- the elements from place x on are these, and all others are unchanged
abbrev pub overlaid : ℕ → List Cell → List Cell → List Cell
overlaid x cells row = take x row ++ (cells ++ drop (x + length cells) row)

-- the cells of row y from column x on are these, and all others are unchanged
abbrev pub with_run : GridView → ℕ → ℕ → List Cell → GridView
with_run s y x cells =
    record s { cells = slice_set s.cells y (overlaid x cells (row_at s y)) }

-- row y is this one, and all others are unchanged
abbrev pub with_row : GridView → ℕ → List Cell → GridView
with_row s y row = record s { cells = slice_set s.cells y row }

-- the cells of row y from column x0 to x1, both included, are c, and all others are unchanged
abbrev pub with_erased : GridView → ℕ → ℕ → ℕ → Cell → GridView
with_erased s y x0 x1 c = with_run s y x0 (replicate (x1 + 1 - x0) c)

-- n cells c are inserted at column x of row y: the row's rest moves right, and the cells that pass its end
-- are lost
abbrev pub with_inserted : GridView → ℕ → ℕ → ℕ → Cell → GridView
with_inserted s y x n c =
    let row = row_at s y in
    with_row s y (take s.cols (take x row ++ (replicate n c ++ drop x row)))

-- n cells are deleted at column x of row y: the row's rest moves left, and its end is filled with c
abbrev pub with_deleted : GridView → ℕ → ℕ → ℕ → Cell → GridView
with_deleted s y x n c =
    let left = take x (row_at s y) ++ drop (x + n) (row_at s y) in
    with_row s y (left ++ replicate (s.cols - length left) c)

-- rows that move down by n: n fresh ones come in above, and the last n are lost
abbrev pub moved_down : ℕ → List Cell → List (List Cell) → List (List Cell)
moved_down n fresh rows = replicate n fresh ++ take (length rows - n) rows

-- the rows top to bottom, both included, move down by n, or by their number if n is more; all other rows stay
abbrev pub scrolled_down : GridView → ℕ → ℕ → ℕ → Cell → GridView
scrolled_down s top bottom n c =
    let height = bottom + 1 - top in
    record s {
      cells =
          take top s.cells
          ++ (moved_down (min n height) (replicate s.cols c) (take height (drop top s.cells))
          ++ drop (bottom + 1) s.cells);
    }

-- a row laid over another one: the other one keeps its length, and its cells after the end of the first
abbrev pub laid_over : List Cell → List Cell → List Cell
laid_over row under = take (length under) row ++ drop (length row) under

-- rows laid over others, each over the one at its place
abbrev pub rows_laid_over : List (List Cell) → List (List Cell) → List (List Cell)
rows_laid_over [] unders = unders
rows_laid_over (row ∷ rows) [] = []
rows_laid_over (row ∷ rows) (under ∷ unders) = laid_over row under ∷ rows_laid_over rows unders

-- the fresh grid, with the old cell of row y + skip and column x in row y and column x, if both exist
abbrev pub resized_grid : GridView → GridView → ℕ → GridView
resized_grid old fresh skip =
    record fresh { cells = rows_laid_over (drop skip old.cells) fresh.cells }
