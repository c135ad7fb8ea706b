-- The cells that a terminal shows, as C passes them.
use Rattle.std.specs.Prelude.{◌≡◌, ℕ, ◌*◌, List, length, map, take, drop}
use Rattle.std.specs.List.{All, range_with_len}
use Rattle.c_cells.specs.Cells.{HasNoSpare, cell_of}
use Rattle.c_cells.specs.declared.vt_cell.VtCell.{VtCell}
use Rattle.vt_cells.specs.declared.cell.Cell.{Cell}
use Rattle.vt_grid.specs.Grid.{GridView, grid_view_of}

-- row y of cells that stand row by row, each of so many columns
abbrev pub row_of : ℕ → List VtCell → ℕ → List Cell
row_of cols cells y = map cell_of (take cols (drop (y * cols) cells))

-- the rows of these cells, from the top
abbrev pub grid_of : ℕ → ℕ → List VtCell → GridView
grid_of rows cols cells = grid_view_of rows cols (map (row_of cols cells) (range_with_len 0 rows))

-- the cells of a terminal that has these columns and the grid's size
pub record AreCellsOf (grid : GridView) (cells : List VtCell) (cols : ℕ) : Type 0 where
  pub columns : cols ≡ grid.cols
  pub count : length cells ≡ grid.rows * grid.cols
  pub spare : All HasNoSpare cells
