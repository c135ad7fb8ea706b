-- How a store names its rows by numbers. No public clause names this.
use Rattle.std.specs.Prelude.{◌≡◌, ℕ, ◌<◌, ◌≤◌, ◌==◌, List, [], ◌∷◌, length, map, slice_index, slice_index_or, slice_set, count_by, All}
use Rattle.vt_grid.specs.StoredRow.{IsNarrowLine, StoredRow, blank_row}
use Rattle.vt_grid.specs.Store.{no_row}
use Rattle.vt_cells.specs.declared.cell.Cell.{Cell}

-- a row as it is kept: how many cells it has room for, and the cells that are stored
pub record RowSlot : Type 0 where
  pub room : ℕ
  pub line : StoredRow

-- the row for a number that names no row
abbrev pub no_slot : RowSlot
no_slot = record { room = 0; line = no_row }

-- the row of this number
abbrev pub slot_at : List RowSlot → ℕ → RowSlot
slot_at shelves p = slice_index_or shelves p no_slot

-- the rows that these numbers name
abbrev pub rows_by_number : List RowSlot → List ℕ → List StoredRow
rows_by_number shelves order = map (λ p. (slot_at shelves p).line) order

-- this row without stored cells: each of its cells is c
abbrev pub blank_slot : Cell → RowSlot → RowSlot
blank_slot c shelf = record shelf { line = blank_row c }

-- the rows of these numbers store no cell: each of their cells is c
abbrev pub cut_all : List ℕ → Cell → List RowSlot → List RowSlot
cut_all [] c shelves = shelves
cut_all (p ∷ order) c shelves =
    cut_all order c (slice_set shelves p (blank_slot c (slot_at shelves p)))

-- no cell of any row is the right half of a character
abbrev pub AreNarrow : List RowSlot → Type 0
AreNarrow shelves = All (λ shelf. IsNarrowLine shelf.line) shelves

-- the n numbers 0, 1, 2 and so on
pub record IsRising (n : ℕ) (order : List ℕ) : Type 0 where
  pub count : length order ≡ n
  pub each : (y : ℕ) → y < n → slice_index order y ≡ y

-- the numbers name each row once, and each row has room for every column
pub record IsNaming (rows cols : ℕ) (order : List ℕ) (shelves : List RowSlot) : Type 0 where
  pub numbers : length order ≡ rows
  pub count : length shelves ≡ rows
  pub within : (y : ℕ) → y < rows → slice_index order y < rows
  pub once : (p : ℕ) → count_by (λ q. p == q) order ≤ 1
  pub room : (p : ℕ) → p < rows → (slot_at shelves p).room ≡ cols
  pub short : (p : ℕ) → p < rows → length (slot_at shelves p).line.stored ≤ cols
