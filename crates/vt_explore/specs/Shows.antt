-- Texts on a console's screen. This project's own.
use Rattle.std.specs.List.{list_any}
use Rattle.std.specs.Prelude.{ℕ, Bool, true, false, ◌==◌, ◌&&◌, ◌||◌, List, [], ◌∷◌, Option, Some, None}
use Rattle.vt_canvas.specs.Screen.{Screen}
use Rattle.vt_cells.specs.declared.cell.Cell.{Cell}
use Rattle.vt_units.specs.Run.{Reached}
use Rattle.vt_world.specs.State.{WorldState}
use Rattle.vt_world.specs.Terminals.{emu_of, terminal_at}

-- the cells begin with these characters
abbrev pub begins : List ℕ → List Cell → Bool
begins [] cells = true
begins (code ∷ text) [] = false
begins (code ∷ text) (cell ∷ cells) = (cell.code == code) && begins text cells

-- these characters stand side by side in the row
abbrev pub stands_in : List ℕ → List Cell → Bool
stands_in text [] = false
stands_in text (cell ∷ row) = begins text (cell ∷ row) || stands_in text row

-- the screen, if there is one, has a row in which they do
abbrev pub screen_shows : List ℕ → Option (Reached Screen) → Bool
screen_shows text None = false
screen_shows text (Some screen) = list_any (stands_in text) screen.state.grid.cells

-- a row of the console's screen has this text; a console that isn't allocated has no screen
abbrev pub shows : WorldState → ℕ → List ℕ → Bool
shows w n text = screen_shows text (emu_of (terminal_at w.terminals n))
