-- The value that a handle owns, and the values that calls make of it.
use Rattle.std.specs.Prelude.{ℕ, Option, Some, None}
use Rattle.vt_grid.specs.Grid.{GridView}
use Rattle.vt_screen.specs.Run.{start}
use Rattle.vt_canvas.specs.Screen.{Screen}
use Rattle.vt_units.specs.Run.{Reached}

-- the screen with its pending text, and the marked cells, if any
pub record OwnedScreenView : Type 0 where
  pub emu : Reached Screen
  pub mark : Option GridView

-- this screen with the same mark
abbrev pub with_emu : Reached Screen → OwnedScreenView → OwnedScreenView
with_emu m o = record o { emu = m }

-- this screen without a mark
abbrev pub unmarked : Reached Screen → OwnedScreenView
unmarked m = record { emu = m; mark = None }

-- the start screen of this many rows and columns, without a mark
abbrev pub new_screen : ℕ → ℕ → OwnedScreenView
new_screen rows cols = record { emu = start rows cols; mark = None }

-- the same screen, with its cells marked
abbrev pub with_mark : OwnedScreenView → OwnedScreenView
with_mark o = record o { mark = Some o.emu.state.grid }
