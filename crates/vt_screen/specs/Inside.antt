-- The place of the cursor, in every screen that bytes and changes make.
use Rattle.std.specs.Prelude.{◌<◌, ◌≤◌, ℕ, IsTrue, List, [], All}
use Rattle.vt_screen.specs.Run.{with_outs, start}
use Rattle.vt_canvas.specs.Screen.{Screen}
use Rattle.vt_screen.specs.Tape.{Taped, byte, change, run_tape}
use Rattle.vt_canvas.specs.Change.{palette, resize, user_map}

-- the cursor is in the screen, and in origin mode in the region
abbrev pub CursorIsInside : Screen → Type 0
CursorIsInside s =
    (s.state.y < s.grid.rows) × (s.state.x < s.grid.cols)
    × (IsTrue s.state.origin → (s.state.top ≤ s.state.y) × (s.state.y ≤ s.state.bottom))

-- a byte, or a change that leaves at least one row and one column
abbrev pub HasPlaces : Taped → Type 0
HasPlaces (byte b) = Unit {0}
HasPlaces (change (user_map words)) = Unit {0}
HasPlaces (change (palette colours)) = Unit {0}
HasPlaces (change (resize rows cols)) = (1 ≤ rows) × (1 ≤ cols)

-- in every screen that bytes and changes make from a start, the cursor is inside
abbrev pub TapesKeepCursor : Type 0
TapesKeepCursor =
    (rows cols : ℕ) (tape : List Taped) → 1 ≤ rows → 1 ≤ cols → All HasPlaces tape
    → CursorIsInside (run_tape tape (with_outs [] (start rows cols))).state.screen
