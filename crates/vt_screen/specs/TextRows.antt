-- The display of a text of printable characters on the start screen: row after row.
use Rattle.std.specs.List.{flat_map}
use Rattle.std.specs.Prelude.{◌≡◌, ℕ, ◌+◌, ◌-◌, ◌*◌, ◌<◌, ◌≤◌, ◌==◌, min, true, List, [], ◌++◌, length, map, replicate, All}
use Rattle.vt_cells.specs.declared.cell.Cell.{Cell}
use Rattle.vt_grid.specs.Grid.{IsFull, GridView}
use Rattle.vt_screen.specs.Run.{after, outs_of_run, start}
use Rattle.vt_canvas.specs.Screen.{Screen, start_blank, start_state}
use Rattle.vt_canvas.specs.declared.screen_state.ScreenState.{ScreenState}
use Rattle.vt_units.specs.Bytes.{is_printable}

-- the cells of a grid, row after row
abbrev pub all_cells : GridView → List Cell
all_cells grid = flat_map (λ row. row) grid.cells

-- a character on the start screen has the colours of a blank there
abbrev pub start_cell : ℕ → Cell
start_cell code = record start_blank { code = code }

-- the start state, with the cursor after so many columns of row y; after the last one it stays in
-- that column, and a wrap is pending
abbrev pub state_at : ℕ → ℕ → ℕ → ℕ → ScreenState
state_at rows cols y columns =
    record (start_state rows) { x = min columns (cols - 1); y = y; wrap = columns == cols }

-- the screen shows the text alone: its cells, row after row, are those of the text and then blanks. The
-- cursor is after the text, in row y, of which so many columns are written, at least one if the text isn't
-- empty. The rest of the state is that of the start
pub record ShowsText (rows cols : ℕ) (text : List ℕ) (s : Screen) : Type 0 where
  pub size : (s.grid.rows ≡ rows) × (s.grid.cols ≡ cols)
  pub full : IsFull s.grid
  pub cells : all_cells s.grid ≡ map start_cell text ++ replicate (rows * cols - length text) start_blank
  pub y : ℕ
  pub columns : ℕ
  pub place : y * cols + columns ≡ length text
  pub within : columns ≤ cols
  pub some : 0 < length text → 0 < columns
  pub state : s.state ≡ state_at rows cols y columns

-- the screen shows the end of the text: as few whole rows of it as possible are lost at the top, and the rest
-- is shown alone
pub record ShowsEnd (rows cols : ℕ) (text : List ℕ) (s : Screen) : Type 0 where
  pub lost : ℕ
  pub above : List ℕ
  pub left : List ℕ
  pub parts : text ≡ above ++ left
  pub whole_rows : length above ≡ lost * cols
  pub few : 0 < lost → (rows - 1) * cols < length left
  pub shown : ShowsText rows cols left s

-- on the start screen a text of printable characters, at most as many as the screen has cells, shows itself
-- alone
abbrev pub TextFillsRows : Type 0
TextFillsRows =
    (rows cols : ℕ) (text : List ℕ) → 1 ≤ rows → 1 ≤ cols
    → All (λ byte. is_printable byte ≡ true) text → length text ≤ rows * cols
    → ShowsText rows cols text (after (start rows cols) text).state

-- a text of any length shows its end; it has no side effect, and leaves nothing unfinished
abbrev pub TextScrolls : Type 0
TextScrolls =
    (rows cols : ℕ) (text : List ℕ) → 1 ≤ rows → 1 ≤ cols
    → All (λ byte. is_printable byte ≡ true) text
    → let end = after (start rows cols) text in
    ShowsEnd rows cols text end.state × (end.rest.text ≡ []) × (outs_of_run (start rows cols) text ≡ [])
