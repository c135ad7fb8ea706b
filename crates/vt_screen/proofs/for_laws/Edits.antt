-- The edits of rows keep each row's property, if they split the rows at their borders.
use Rattle.std.proofs.Common.{◌≡◌, ℕ, ◌+◌, ◌-◌, min, false, List}
use Rattle.std.specs.Prelude.{All}
use Rattle.vt_cells.specs.Width.{is_half}
use Rattle.vt_cells.specs.declared.cell.Cell.{Cell}
use Rattle.vt_grid.specs.Grid.{GridView, with_deleted, with_erased, filled_grid, with_inserted, resized_grid, scrolled_down, scrolled_up}
use Rattle.vt_grid.specs.Halves.{with_cells_at, split_wide_between, split_wide_rows}

abbrev pub Each : (List Cell → Type 0) → GridView → Type 0
Each Row s = All Row s.cells

-- the cell is no right half of a character
abbrev pub IsWholeCell : Cell → Type 0
IsWholeCell c = is_half c ≡ false

-- the cells that come in have one property, and all rows keep the other one
pub record Edits (Blank : Cell → Type 0) (Row : List Cell → Type 0) : Type 0 where
  pub drawing : (s : GridView) (y x : ℕ) (cells : List Cell) → Each Row s → Row cells → Each Row (with_cells_at s y x cells)
  pub inserting : (s : GridView) (y x n : ℕ) (c : Cell) → Each Row s → Blank c
      → Each Row (with_inserted (split_wide_between s y x (s.cols - min n (s.cols - x))) y x n c)
  pub deleting : (s : GridView) (y x n : ℕ) (c : Cell) → Each Row s → Blank c
      → Each Row (with_deleted (split_wide_between s y x (x + n)) y x n c)
  pub erasing : (s : GridView) (y x0 x1 : ℕ) (c : Cell) → Each Row s → Blank c
      → Each Row (with_erased (split_wide_between s y x0 (x1 + 1)) y x0 x1 c)
  pub scrolling_up : (s : GridView) (top bottom n : ℕ) (c : Cell) → Each Row s → Blank c
      → Each Row (scrolled_up s top bottom n c)
  pub scrolling_down : (s : GridView) (top bottom n : ℕ) (c : Cell) → Each Row s → Blank c
      → Each Row (scrolled_down s top bottom n c)
  pub filling : (rows cols : ℕ) (c : Cell) → Blank c → Each Row (filled_grid rows cols c)
  pub resizing : (s : GridView) (rows cols skip : ℕ) (c : Cell) → Each Row s → Blank c
      → Each Row (resized_grid (split_wide_rows cols s) (filled_grid rows cols c) skip)
