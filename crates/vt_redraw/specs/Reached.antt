-- The screens that bytes and changes make from a start.
use Rattle.std.specs.Prelude.{◌≡◌, ◌↔◌, ◌<◌, ◌≤◌, ◌||◌, ℕ, true, List, [], All}
use Rattle.std.specs.List.{list_all}
use Rattle.vt_cells.specs.Width.{is_half}
use Rattle.vt_cells.specs.declared.cell.Cell.{Cell}
use Rattle.vt_redraw.specs.Drawable.{is_glyph, is_row_drawable, is_state_drawable}
use Rattle.vt_screen.specs.Characters.{IsNarrowTaped}
use Rattle.vt_screen.specs.Inside.{HasPlaces}
use Rattle.vt_screen.specs.Run.{after, start, with_outs}
use Rattle.vt_screen.specs.Tape.{Taped, run_tape}
use Rattle.vt_canvas.specs.declared.screen_state.ScreenState.{ScreenState}

-- a text can make the state of each screen that bytes alone make. So only the cells of one keep it from being drawn
abbrev pub StatesAreDrawable : Type 0
StatesAreDrawable =
    (rows cols : ℕ) (bytes : List ℕ) → 1 ≤ rows → 1 ≤ cols
    → let s = (after (start rows cols) bytes).state in
    is_state_drawable s.grid.rows s.grid.cols s.state ≡ true

-- the state with the saved cursor in the first row and column
abbrev pub with_saved_home : ScreenState → ScreenState
with_saved_home v = record v { saved = record v.saved { x = 0; y = 0 } }

-- the same of each screen that bytes and changes make, except that a change of size can leave the saved cursor outside
abbrev pub TapeStatesAreDrawable : Type 0
TapeStatesAreDrawable =
    (rows cols : ℕ) (tape : List Taped) → 1 ≤ rows → 1 ≤ cols → All HasPlaces tape
    → let s = (run_tape tape (with_outs [] (start rows cols))).state.screen in
    is_state_drawable s.grid.rows s.grid.cols (with_saved_home s.state) ≡ true

-- the cell is a right half or has a character that prints itself, and its attributes are a byte
abbrev pub IsDrawableCell : Cell → Type 0
IsDrawableCell c = ((is_half c || is_glyph c.code) ≡ true) × (c.attr < 256)

-- of each screen that bytes and changes make, if no word of the user's table takes two columns, the rows can be drawn
-- exactly if each cell can: a right half is never the reason
abbrev pub TapeCellsAreDrawable : Type 0
TapeCellsAreDrawable =
    (rows cols : ℕ) (tape : List Taped) → All IsNarrowTaped tape
    → let cells = (run_tape tape (with_outs [] (start rows cols))).state.screen.grid.cells in
    (list_all is_row_drawable cells ≡ true) ↔ All (All IsDrawableCell) cells
