-- The outcome of `screen`: docs/reference/screen.md.
use Rattle.std.specs.Prelude.{◌≡◌, ℕ, ◌≤◌, List}
use Rattle.vt_dump.specs.Rows.{rows_text}
use Rattle.vt_screen.specs.Run.{after, start}
use Rattle.vt_tool.specs.Outcome.{Outcome, fine_text}
use Rattle.vt_tool.specs.Words.{Range}

-- the numbers of rows and of columns
abbrev pub side : Range
side = record { low = 1; high = 255 }

pub record IsScreenSize (rows cols : ℕ) : Type 0 where
  pub some_rows : 1 ≤ rows
  pub rows_fit : rows ≤ 255
  pub some_cols : 1 ≤ cols
  pub cols_fit : cols ≤ 255

-- the most bytes of input that it reads; this project's own
abbrev pub screen_limit : ℕ
screen_limit = 67108864

-- the rows of a blank screen after the input
abbrev pub GivesRows : ℕ → ℕ → List ℕ → Outcome → Type 0
GivesRows rows cols input outcome =
    outcome ≡ fine_text (rows_text (after (start rows cols) input).state.grid.cells)
