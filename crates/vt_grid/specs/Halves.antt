-- Characters of two columns: the code of one stands in a cell, and its right half in the next cell.
use Rattle.std.specs.Prelude.{ℕ, zero, suc, ◌+◌, Bool, true, false, ◌&&◌, List, [], ◌∷◌, ◌++◌, length, map, take, drop, ◌≡◌, All, if◌then◌else◌}
use Rattle.vt_cells.specs.Width.{is_half}
use Rattle.vt_grid.specs.Grid.{GridView, row_at, with_row, with_run}
use Rattle.vt_cells.specs.declared.cell.Cell.{Cell}

-- a space in the cell's colours
abbrev pub space_in_colours : Cell → Cell
space_in_colours c = record c { code = 0x20 }

-- cells with a border between the first two: the two halves of a character become spaces
abbrev pub split_pair : List Cell → List Cell
split_pair (left ∷ right ∷ cells) =
    if is_half right then space_in_colours left ∷ space_in_colours right ∷ cells else left ∷ right ∷ cells
split_pair cells = cells

-- a row with a border before column x: a character on both sides of it becomes two spaces
abbrev pub split_wide : ℕ → List Cell → List Cell
split_wide zero row = row
split_wide (suc x) row = take x row ++ split_pair (drop x row)

-- row y is split at x
abbrev pub split_wide_at : GridView → ℕ → ℕ → GridView
split_wide_at s y x = with_row s y (split_wide x (row_at s y))

-- row y is split at x, and then at end
abbrev pub split_wide_between : GridView → ℕ → ℕ → ℕ → GridView
split_wide_between s y x end = split_wide_at (split_wide_at s y x) y end

-- every row is split at x
abbrev pub split_wide_rows : ℕ → GridView → GridView
split_wide_rows x s = record s { cells = map (split_wide x) s.cells }

-- the cells of row y from column x on are these, and a character that they cover in part is split
abbrev pub with_cells_at : GridView → ℕ → ℕ → List Cell → GridView
with_cells_at s y x cells = with_run (split_wide_between s y x (x + length cells)) y x cells

-- each half among these cells follows a cell that isn't one; whether the cells follow a half is given
abbrev pub ArePaired : Bool → List Cell → Type 0
ArePaired after_half [] = Unit {0}
ArePaired after_half (c ∷ cells) = ((after_half && is_half c) ≡ false) × ArePaired (is_half c) cells

-- no half stands in column 0, nor right of a half
abbrev pub IsPairedRow : List Cell → Type 0
IsPairedRow row = ArePaired true row

abbrev pub IsPaired : GridView → Type 0
IsPaired s = All IsPairedRow s.cells

-- no cell of the row is the right half of a character. No public clause names this, nor the next one
abbrev pub IsNarrowRow : List Cell → Type 0
IsNarrowRow row = All (λ c. is_half c ≡ false) row

-- no cell of the grid is the right half of a character
abbrev pub IsNarrow : GridView → Type 0
IsNarrow s = All IsNarrowRow s.cells
