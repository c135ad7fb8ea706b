-- The bytes of a screen's dumps (vcs(4)). The dump of code points is this project's own.
use Rattle.std.specs.Prelude.{ℕ, ◌*◌, Bool, nat_le, List, [], ◌∷◌, if◌then◌else◌}
use Rattle.std.specs.List.{flat_map}
use Rattle.std.specs.Int.{to_le_bytes, w32}
use Rattle.vt_cells.specs.AttrByte.{with_colours_swapped}
use Rattle.vt_grid.specs.Grid.{GridView}
use Rattle.vt_cells.specs.declared.cell.Cell.{Cell}

-- how many cells there are
abbrev pub cell_count : GridView → ℕ
cell_count s = s.rows * s.cols

-- the bytes of each cell, in reading order
abbrev pub of_cells : (Cell → List ℕ) → GridView → List ℕ
of_cells bytes s = flat_map (flat_map bytes) s.cells

-- a cell's character in one byte, or a question mark
abbrev pub character : Cell → ℕ
character cell = if nat_le cell.code 0xFF then cell.code else 0x3F

-- a cell's attribute, with the colours exchanged if the screen is reversed
abbrev pub attribute : Bool → Cell → ℕ
attribute reversed cell = if reversed then with_colours_swapped cell.attr else cell.attr

-- the characters
abbrev pub vcs_bytes : GridView → List ℕ
vcs_bytes = of_cells (λ cell. character cell ∷ [])

-- lines, columns, the cursor's column and row, and then characters and attributes
abbrev pub vcsa_bytes : GridView → ℕ → ℕ → Bool → List ℕ
vcsa_bytes s x y reversed =
    s.rows ∷ s.cols ∷ x ∷ y
    ∷ of_cells (λ cell. character cell ∷ attribute reversed cell ∷ []) s

-- the code points in four bytes, the lowest first
abbrev pub codes_bytes : GridView → List ℕ
codes_bytes = of_cells (λ cell. to_le_bytes w32 cell.code)
