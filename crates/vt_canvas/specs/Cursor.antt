-- The moves of the cursor (console_codes(4)). The rules of the wrap flag are this project's own: a sequence
-- that moves the cursor ends a pending wrap, and a tab leaves it.
use Rattle.std.specs.List.{prefix_len}
use Rattle.std.specs.Prelude.{ℕ, zero, suc, max, false, ◌+◌, ◌-◌, ◌==◌, min, not, drop, if◌then◌else◌}
use Rattle.vt_grid.specs.Grid.{scrolled_down, scrolled_up}
use Rattle.vt_canvas.specs.Screen.{Screen, blank_of, with_state}

-- the cursor in another column of its row, with no wrap pending
abbrev pub at_column : ℕ → Screen → Screen
at_column x s = with_state s (record s.state { x = x; wrap = false })

-- the cursor in another row, with no wrap pending
abbrev pub at_row : ℕ → Screen → Screen
at_row y s = with_state s (record s.state { y = y; wrap = false })

-- the rows of the region move up, or down, by one, and a blank one comes in; no wrap is pending
abbrev pub region_up : Screen → Screen
region_up s = record {
  grid = scrolled_up s.grid s.state.top s.state.bottom 1 (blank_of s);
  state = record s.state { wrap = false };
}

abbrev pub region_down : Screen → Screen
region_down s = record {
  grid = scrolled_down s.grid s.state.top s.state.bottom 1 (blank_of s);
  state = record s.state { wrap = false };
}

-- one row down, not past the last one; in the region's last row the region scrolls
abbrev pub linefeed : Screen → Screen
linefeed s =
    if s.state.y == s.state.bottom then region_up s
    else at_row (min (s.state.y + 1) (s.grid.rows - 1)) s

-- one row up, not past the first one; in the region's first row the region scrolls
abbrev pub reverse_linefeed : Screen → Screen
reverse_linefeed s =
    if s.state.y == s.state.top then region_down s
    else at_row (s.state.y - 1) s

-- LF: a line feed; in newline mode the cursor also goes to the first column
abbrev pub newline : Screen → Screen
newline s = linefeed (if s.state.newline then at_column 0 s else s)

-- line feeds, one after another
abbrev pub newlines : ℕ → Screen → Screen
newlines zero s = s
newlines (suc n) s = newlines n (newline s)

-- to the next tab stop to the right, and not past the last column
unfoldable pub tab : Screen → Screen
tab s =
    let passed = prefix_len not (drop (s.state.x + 1) s.state.stops) in
    with_state s (record s.state { x = min (s.state.x + 1 + passed) (s.grid.cols - 1) })

-- the first and the last row that a move reaches: in origin mode those of the region
abbrev pub first_row : Screen → ℕ
first_row s = if s.state.origin then s.state.top else 0

abbrev pub last_row : Screen → ℕ
last_row s = if s.state.origin then s.state.bottom else s.grid.rows - 1

-- move: to a row and a column, or as far as a move reaches
unfoldable pub cursor_to : ℕ → ℕ → Screen → Screen
cursor_to y x s =
    with_state s
    (record s.state {
      x = min x (s.grid.cols - 1);
      y = max (first_row s) (min y (last_row s));
      wrap = false;
    })

-- place: in origin mode rows are counted from the region's first one
unfoldable pub cursor_to_in_region : ℕ → ℕ → Screen → Screen
cursor_to_in_region y x s = cursor_to (first_row s + y) x s

-- home
abbrev pub cursor_home : Screen → Screen
cursor_home s = cursor_to_in_region 0 0 s
