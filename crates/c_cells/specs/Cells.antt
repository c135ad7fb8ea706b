-- A cell as C gets it, and as C passes it. Spare bytes are 0.
use Rattle.std.specs.Prelude.{◌≡◌, replicate}
use Rattle.c_cells.specs.declared.vt_cell.VtCell.{VtCell}
use Rattle.vt_cells.specs.declared.cell.Cell.{Cell}

abbrev pub c_cell : Cell → VtCell
c_cell cell = record { code = cell.code; attr = cell.attr; spare = replicate 3 0 }

-- the cell that C passes so
abbrev pub cell_of : VtCell → Cell
cell_of c = record { code = c.code; attr = c.attr }

-- no spare byte is set
abbrev pub HasNoSpare : VtCell → Type 0
HasNoSpare c = c.spare ≡ replicate 3 0
