-- Erasing, inserting and deleting (console_codes(4), "ECMA-48 CSI sequences"). New cells are blank, in the
-- pen's two colours. This project's own is that all of these end a pending wrap.
use Rattle.std.specs.Prelude.{ℕ, Bool, false, ◌+◌, ◌-◌, ◌==◌, ◌&&◌, ◌||◌, nat_le, min, ◌++◌, take, drop, replicate, if◌then◌else◌}
use Rattle.vt_grid.specs.Grid.{GridView, with_deleted, with_erased, with_inserted, scrolled_down, scrolled_up}
use Rattle.vt_grid.specs.Halves.{split_wide_between}
use Rattle.vt_canvas.specs.Screen.{Screen, blank_of, with_state}

-- no wrap is pending
abbrev pub without_pending_wrap : Screen → Screen
without_pending_wrap s = with_state s (record s.state { wrap = false })

abbrev pub with_grid : Screen → GridView → Screen
with_grid s grid = record s { grid = grid }

-- the cells of the cursor's row from column x0 to x1, both included, are blank; a character that they cover
-- in part is split
abbrev pub line_erased : ℕ → ℕ → Screen → Screen
line_erased x0 x1 s =
    with_grid s
    (with_erased (split_wide_between s.grid s.state.y x0 (x1 + 1)) s.state.y x0 x1 (blank_of s))

-- n, or the number of cells from the cursor to the end of its row if that is less
abbrev pub fitting_count : ℕ → Screen → ℕ
fitting_count n s = min n (s.grid.cols - s.state.x)

-- n blanks are inserted at the cursor; a character at the cursor, or one of which a part passes the row's
-- end, is split
abbrev pub cells_inserted : ℕ → Screen → Screen
cells_inserted n s =
    let y = s.state.y in
    let x = s.state.x in
    with_grid s
    (with_inserted (split_wide_between s.grid y x (s.grid.cols - fitting_count n s)) y x n (blank_of s))

-- n cells are deleted at the cursor; a character that is deleted in part is split. There is no cell past the
-- row's end
abbrev pub cells_deleted : ℕ → Screen → Screen
cells_deleted n s =
    let y = s.state.y in
    let x = s.state.x in
    with_grid s (with_deleted (split_wide_between s.grid y x (x + n)) y x n (blank_of s))

-- so many rows from this one on are blank
unfoldable pub rows_erased : ℕ → ℕ → Screen → Screen
rows_erased from count s =
    with_grid s
    (record s.grid {
      cells =
          take from s.grid.cells
          ++ (replicate count (replicate s.grid.cols (blank_of s))
          ++ drop (from + count) s.grid.cells);
    })

-- from the cursor to the end of its row, and from the row's start to the cursor, the cursor's cell
-- included
abbrev pub line_end_erased : Screen → Screen
line_end_erased s = line_erased s.state.x (s.grid.cols - 1) s

abbrev pub line_start_erased : Screen → Screen
line_start_erased s = line_erased 0 s.state.x s

-- the rows below the cursor's one, those above it, and all of them
abbrev pub below_erased : Screen → Screen
below_erased s = rows_erased (s.state.y + 1) (s.grid.rows - (s.state.y + 1)) s

abbrev pub above_erased : Screen → Screen
above_erased s = rows_erased 0 s.state.y s

abbrev pub all_erased : Screen → Screen
all_erased s = rows_erased 0 s.grid.rows s

-- ED: 0 from the cursor to the end, 1 from the start to the cursor, 2 and 3 the whole display; 3 has
-- no more to erase, since nothing scrolls back here
unfoldable pub erase_display : ℕ → Screen → Screen
erase_display which s =
    if which == 0 then without_pending_wrap (below_erased (line_end_erased s))
    else if which == 1 then without_pending_wrap (above_erased (line_start_erased s))
    else if which == 2 || which == 3 then without_pending_wrap (all_erased s)
    else s

-- EL: the same ranges in the cursor's row
unfoldable pub erase_line : ℕ → Screen → Screen
erase_line which s =
    if which == 0 then without_pending_wrap (line_end_erased s)
    else if which == 1 then without_pending_wrap (line_start_erased s)
    else if which == 2 then without_pending_wrap (line_erased 0 (s.grid.cols - 1) s)
    else s

-- ECH: n cells from the cursor on, as far as the row goes
unfoldable pub erase_characters : ℕ → Screen → Screen
erase_characters n s =
    without_pending_wrap (line_erased s.state.x (min (s.state.x + n - 1) (s.grid.cols - 1)) s)

-- ICH: n blanks are inserted at the cursor
unfoldable pub insert_characters : ℕ → Screen → Screen
insert_characters n s = without_pending_wrap (cells_inserted n s)

-- DCH: n cells are deleted at the cursor
unfoldable pub delete_characters : ℕ → Screen → Screen
delete_characters n s = without_pending_wrap (cells_deleted n s)

-- the cursor is in the region
abbrev pub in_region : Screen → Bool
in_region s = nat_le s.state.top s.state.y && nat_le s.state.y s.state.bottom

-- IL: n blank rows are inserted at the cursor's row, and the region's rows from there on move down. Outside
-- the region no row changes. The cursor keeps its column: this project's own
unfoldable pub insert_lines : ℕ → Screen → Screen
insert_lines n s =
    without_pending_wrap
    (if in_region s
    then with_grid s (scrolled_down s.grid s.state.y s.state.bottom n (blank_of s))
    else s)

-- DL: n rows are deleted at the cursor's row, and the region's rows after them move up
unfoldable pub delete_lines : ℕ → Screen → Screen
delete_lines n s =
    without_pending_wrap
    (if in_region s
    then with_grid s (scrolled_up s.grid s.state.y s.state.bottom n (blank_of s))
    else s)
