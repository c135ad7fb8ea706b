-- The forms in which a cell is dumped. No public clause names this.
use Rattle.std.specs.Prelude.{ℕ, List, [], ◌∷◌}
use Rattle.std.specs.Int.{to_le_bytes, w32}
use Rattle.vt_dump.specs.Dumps.{attribute, character}
use Rattle.vt_dump.specs.declared.form.Form.{Form}
use Rattle.vt_dump.specs.declared.form.Form.TheVariants.{Character, WithAttribute, Code}
use Rattle.vt_cells.specs.declared.cell.Cell.{Cell}

-- a cell in a form
abbrev pub cell_bytes : Form → Cell → List ℕ
cell_bytes Character cell = character cell ∷ []
cell_bytes (WithAttribute reversed) cell = character cell ∷ attribute reversed cell ∷ []
cell_bytes Code cell = to_le_bytes w32 cell.code

-- the most bytes that a cell takes in a form
abbrev pub most_bytes : Form → ℕ
most_bytes Character = 1
most_bytes (WithAttribute reversed) = 2
most_bytes Code = 4
