-- A screen as a text that draws it again, and the result of that text.
use Rattle.std.specs.Prelude.{◌≡◌, ℕ, false, ◌-◌, ◌<◌, ◌≤◌, IsTrue, List, [], ◌++◌, length, take, replicate, All}
use Rattle.vt_cells.specs.Colours.{Rgb}
use Rattle.vt_grid.specs.Grid.{GridView, filled_grid}
use Rattle.vt_redraw.specs.Cells.{changed_rows}
use Rattle.vt_redraw.specs.Drawable.{is_redrawable}
use Rattle.vt_redraw.specs.State.{clearing_text, setting_text, state_text}
use Rattle.vt_screen.specs.Run.{with_outs, run_from}
use Rattle.vt_canvas.specs.Screen.{IsWhole, Screen, start_blank, with_state}
use Rattle.vt_units.specs.Rest.{fresh}
use Rattle.vt_units.specs.Run.{make_reached}
use Rattle.vt_units.specs.declared.mode.Mode.{Mode}

-- the text that draws a screen on one whose cells are these: the rows that differ, and the state
unfoldable pub changes_of : GridView → Screen → List ℕ
changes_of old s = setting_text ++ (changed_rows 0 old.cells s.grid.cells ++ state_text s)

-- the text that draws a screen on any of its size: it makes that one blank first
unfoldable pub redraw_of : Screen → List ℕ
redraw_of s =
    setting_text
    ++ (clearing_text
    ++ (changed_rows 0 (filled_grid s.grid.rows s.grid.cols start_blank).cells s.grid.cells
    ++ state_text s))

-- a screen after it is drawn on another one: itself, except the tab stops past its columns, of which none is
-- left, and the user's table, which no text sets and which is the other screen's
abbrev pub redrawn_on : Screen → Screen → Screen
redrawn_on other s =
    with_state s
    (record s.state {
      stops = take s.grid.cols s.state.stops ++ replicate (255 - s.grid.cols) false;
      map = other.state.map;
    })

-- the text, run on another screen where no text is pending, makes this one again. It has no side effect, and
-- leaves no text unfinished
pub record Redraws (s other : Screen) (text : List ℕ) : Type 0 where
  pub again : (m : Mode) → (left : Mode)
      × (run_from (make_reached other (fresh m)) text ≡ with_outs [] (make_reached (redrawn_on other s) (fresh left)))

-- the invariant of each screen that a program holds: it is whole, has at most 255 rows and columns, 255
-- columns may have a stop, 16 colours have parts of a byte, and two colours are below 16
pub record IsStored (s : Screen) : Type 0 where
  pub whole : IsWhole s
  pub rows : s.grid.rows ≤ 255
  pub cols : s.grid.cols ≤ 255
  pub stops : length s.state.stops ≡ 255
  pub colours : length s.state.palette ≡ 16
  pub parts : All (λ (rgb : Rgb). (rgb.0 < 256) × (rgb.1 < 256) × (rgb.2 < 256)) s.state.palette
  pub look : (s.state.pen.look.ul < 16) × (s.state.pen.look.dim < 16)

-- both have the same rows and columns
abbrev pub IsSameSize : GridView → GridView → Type 0
IsSameSize a b = (a.rows ≡ b.rows) × (a.cols ≡ b.cols)

-- each redrawable screen is drawn again by its text, on every screen of its size
abbrev pub ScreensRedraw : Type 0
ScreensRedraw =
    (s other : Screen) → IsStored s → IsWhole other → IsSameSize other.grid s.grid
    → IsTrue (is_redrawable s) → Redraws s other (redraw_of s)

-- each redrawable screen is drawn again by the text of the differences, on every screen with these cells
abbrev pub ChangesRedraw : Type 0
ChangesRedraw =
    (s other : Screen) → IsStored s → IsWhole other → IsSameSize other.grid s.grid
    → IsTrue (is_redrawable s) → Redraws s other (changes_of other.grid s)
