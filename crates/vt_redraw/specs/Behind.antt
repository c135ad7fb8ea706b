-- A later text, on a screen and on the screen that was drawn again.
use Rattle.std.specs.Prelude.{◌≡◌, ℕ, Bool, ◌≤◌, List, length, take}
use Rattle.vt_redraw.specs.Redraw.{IsStored, redrawn_on}
use Rattle.vt_screen.specs.Run.{run_from}
use Rattle.vt_canvas.specs.Screen.{Screen, with_state}
use Rattle.vt_units.specs.Rest.{fresh}
use Rattle.vt_units.specs.Run.{make_reached}
use Rattle.vt_units.specs.declared.mode.Mode.{Mode}

-- the screen with other tab stops
abbrev pub with_stops : List Bool → Screen → Screen
with_stops stops s = with_state s (record s.state { stops = stops })

-- the second screen is the first one, except for tab stops past the columns
pub record IsAlike (s t : Screen) : Type 0 where
  pub stops : List Bool
  pub is : t ≡ with_stops stops s
  pub same : take s.grid.cols stops ≡ take s.grid.cols s.state.stops
  pub many : s.grid.cols ≤ length stops
  pub all : s.grid.cols ≤ length s.state.stops
  pub few : s.grid.cols ≤ 255

-- if both have the same user's table, every later text makes the same cells and the same state on a screen
-- and on the one that was drawn again, except for tab stops past the columns, has the same side effects,
-- and leaves the same text pending
abbrev pub TextsFollow : Type 0
TextsFollow =
    (s other : Screen) (m : Mode) (bytes : List ℕ) → IsStored s → s.state.map ≡ other.state.map
    → let first = run_from (make_reached s (fresh m)) bytes in
    let again = run_from (make_reached (redrawn_on other s) (fresh m)) bytes in
    IsAlike first.state.screen again.state.screen × (again.state.outs ≡ first.state.outs) × (again.rest ≡ first.rest)
