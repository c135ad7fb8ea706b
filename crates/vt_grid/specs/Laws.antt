-- Laws of runs of cells in every grid: cell by cell, and in two stretches.
use Rattle.std.specs.Prelude.{◌≡◌, ℕ, ◌+◌, ◌<◌, ◌≤◌, List, [], ◌∷◌, ◌++◌, length}
use Rattle.vt_grid.specs.Grid.{IsFull, GridView, row_at, with_cell, with_run}
use Rattle.vt_grid.specs.Halves.{with_cells_at, split_wide_at}
use Rattle.vt_cells.specs.declared.cell.Cell.{Cell}

-- a run of no cell changes nothing
abbrev pub RunOfNone : Type 0
RunOfNone = (s : GridView) (y x : ℕ) → with_run s y x [] ≡ s

-- a run is its first cell, and then the run of the others from the next column on
abbrev pub RunOfMore : Type 0
RunOfMore =
    (s : GridView) (y x : ℕ) (c : Cell) (cells : List Cell) → x < length (row_at s y)
    → with_run s y x (c ∷ cells) ≡ with_run (with_cell s y x c) y (x + 1) cells

-- setting a cell leaves the length of its row unchanged
abbrev pub CellKeepsWidth : Type 0
CellKeepsWidth =
    (s : GridView) (y x : ℕ) (c : Cell)
    → length (row_at (with_cell s y x c) y) ≡ length (row_at s y)

-- two stretches of cells, drawn one after the other, are the whole stretch, drawn at once
abbrev pub StretchesJoin : Type 0
StretchesJoin =
    (s : GridView) (y x : ℕ) (first second : List Cell) → 0 < length first → 0 < length second
    → x + length (first ++ second) ≤ length (row_at s y)
    → with_cells_at (with_cells_at s y x first) y (x + length first) second ≡ with_cells_at s y x (first ++ second)

-- at a row's end and past it no character is split
abbrev pub EndsAreWhole : Type 0
EndsAreWhole = (s : GridView) (y x : ℕ) → IsFull s → s.cols ≤ x → split_wide_at s y x ≡ s
