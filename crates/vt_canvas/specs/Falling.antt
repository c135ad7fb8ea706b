-- Which units move the first row out at the top of a screen, and that row. A line feed in the last row of a region that
-- begins with the screen's first row moves that row out. A line deleted, an erase or another size of the screen isn't
-- that.
use Rattle.std.specs.Prelude.{ℕ, Bool, false, not, ◌==◌, ◌&&◌, ◌||◌, min, List, [], ◌∷◌, if◌then◌else◌}
use Rattle.vt_canvas.specs.Printing.{lacks_room}
use Rattle.vt_canvas.specs.Screen.{Screen}
use Rattle.vt_cells.specs.Width.{columns}
use Rattle.vt_cells.specs.declared.cell.Cell.{Cell}
use Rattle.vt_grid.specs.Grid.{row_at}
use Rattle.vt_units.specs.declared.unit.Unit as units
use Rattle.vt_units.specs.declared.unit.Unit.TheVariants.{Char, Byte, Control, Esc}

-- a character of so many columns goes to the next row; one of two takes one if rows have one
abbrev pub goes_to_next_row : ℕ → Screen → Bool
goes_to_next_row w s = not (w == 0) && (s.state.autowrap && (s.state.wrap || lacks_room (min w s.grid.cols) s))

-- the unit begins with a line feed: LF, VT, FF, IND, NEL, and a character that goes to the next row
abbrev pub feeds_line : units.Unit → Screen → Bool
feeds_line (Char code) s = goes_to_next_row (columns code) s
feeds_line (Byte b) s = goes_to_next_row 1 s
feeds_line (Control code) s = code == 0x0A || code == 0x0B || code == 0x0C
feeds_line (Esc mid last) s = mid == 0 && (last == 0x44 || last == 0x45)
feeds_line other s = false

-- a line feed moves the first row out
abbrev pub is_at_end : Screen → Bool
is_at_end s = s.state.top == 0 && s.state.y == s.state.bottom

-- the first row falls out by this unit
abbrev pub loses_row : units.Unit → Screen → Bool
loses_row unit s = is_at_end s && feeds_line unit s

-- the row that falls out by this unit, if one does
abbrev pub fallen : units.Unit → Screen → List (List Cell)
fallen unit s = if loses_row unit s then row_at s.grid 0 ∷ [] else []
