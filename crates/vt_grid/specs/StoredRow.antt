-- A row of which only the first cells are stored.
use Rattle.std.specs.Prelude.{◌≡◌, ℕ, ◌+◌, ◌-◌, false, List, [], ◌++◌, length, take, drop, replicate, slice_index_or}
use Rattle.vt_cells.specs.Width.{is_half}
use Rattle.vt_grid.specs.Grid.{overlaid}
use Rattle.vt_grid.specs.Halves.{IsNarrowRow}
use Rattle.vt_cells.specs.declared.cell.Cell.{Cell}

-- the cells that are stored, from left to right, and the value of all further cells
pub record StoredRow : Type 0 where
  pub stored : List Cell
  pub rest : Cell

-- a row that stores no cell: each of them is c
abbrev pub blank_row : Cell → StoredRow
blank_row c = record { stored = []; rest = c }

-- the cell in column x
abbrev pub cell_at : StoredRow → ℕ → Cell
cell_at line x = slice_index_or line.stored x line.rest

-- the first n cells, and all that are stored
abbrev pub cells_of : ℕ → StoredRow → List Cell
cells_of n line = line.stored ++ replicate (n - length line.stored) line.rest

-- the stored cells from column x on are these, and all others are unchanged
abbrev pub with_stored_cells : ℕ → List Cell → StoredRow → StoredRow
with_stored_cells x cells line = record line { stored = overlaid x cells line.stored }

-- the row with the cells before column x stored
abbrev pub stored_up_to : ℕ → StoredRow → StoredRow
stored_up_to x line = record line { stored = cells_of x line }

-- the cells from column len on are all c
abbrev pub cut_at : ℕ → Cell → StoredRow → StoredRow
cut_at len c line = record { stored = take len line.stored; rest = c }

-- so many cells c are inserted at column x: the rest moves right, and the cells that pass the end are lost
abbrev pub with_stored_inserted : ℕ → ℕ → ℕ → Cell → StoredRow → StoredRow
with_stored_inserted cols x count c line =
    record line {
      stored = take cols (take x line.stored ++ (replicate count c ++ drop x line.stored));
    }

-- so many stored cells are deleted at column x: the rest moves left, and all further cells are c
abbrev pub with_stored_deleted : ℕ → ℕ → Cell → StoredRow → StoredRow
with_stored_deleted x count c line =
    record { stored = take x line.stored ++ drop (x + count) line.stored; rest = c }

-- the first cells are those of another row, so many
abbrev pub with_prefix_of : ℕ → StoredRow → StoredRow → StoredRow
with_prefix_of count over line = with_stored_cells 0 (take count (cells_of count over)) line

-- no cell is the right half of a character, stored or not. No public clause names this
abbrev pub IsNarrowLine : StoredRow → Type 0
IsNarrowLine line = IsNarrowRow line.stored × (is_half line.rest ≡ false)
