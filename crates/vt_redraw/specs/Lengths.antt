-- The greatest length of a redraw.
use Rattle.std.specs.Prelude.{ℕ, ◌+◌, ◌*◌, ◌≤◌, IsTrue, length}
use Rattle.vt_grid.specs.Grid.{GridView}
use Rattle.vt_redraw.specs.Drawable.{is_redrawable}
use Rattle.vt_redraw.specs.Redraw.{IsStored, changes_of, redraw_of}
use Rattle.vt_canvas.specs.Screen.{Screen}

-- so many bytes for a screen of these rows and columns. A cell takes at most 18: SGR with 14 and a character with 4. A
-- row begins with a motion of 8. The row of a pending wrap is drawn once more, and a tab stop takes 8. All else takes
-- 377
abbrev pub redraw_most : ℕ → ℕ → ℕ
redraw_most rows cols = rows * (18 * cols + 8) + 26 * cols + 377

-- no text of a redraw is longer
abbrev pub RedrawsAreShort : Type 0
RedrawsAreShort =
    (s : Screen) → IsStored s → IsTrue (is_redrawable s)
    → (length (redraw_of s) ≤ redraw_most s.grid.rows s.grid.cols)
    × ((old : GridView) → length (changes_of old s) ≤ redraw_most s.grid.rows s.grid.cols)
