-- The changes of a screen by calls.
use Rattle.std.specs.Prelude.{ℕ, false, ◌+◌, ◌-◌, min, List}
use Rattle.vt_cells.specs.Colours.{Rgb}
use Rattle.vt_grid.specs.Grid.{filled_grid, resized_grid}
use Rattle.vt_grid.specs.Halves.{split_wide_rows}
use Rattle.vt_canvas.specs.Screen.{Screen, blank_of, with_state}

-- the number of rows that are lost at the top of a screen that gets so many rows: as many as bring the
-- cursor's row into it
abbrev pub lost_rows : ℕ → Screen → ℕ
lost_rows rows s = s.state.y + 1 - rows

-- the screen in another size: the cells that both have stay, except a character that is cut, new ones are
-- blank, the cursor stays at its cell if that is kept, and the region is whole
unfoldable pub resized_to : ℕ → ℕ → Screen → Screen
resized_to rows cols s = record {
  grid = resized_grid (split_wide_rows cols s.grid) (filled_grid rows cols (blank_of s)) (lost_rows rows s);
  state = record s.state {
    y = s.state.y - lost_rows rows s;
    x = min s.state.x (cols - 1);
    wrap = false;
    top = 0;
    bottom = rows - 1;
  };
}

-- a change of the screen by a call: the user's table or the palette is set, or the screen gets so
-- many rows and columns
pub data Change : Type 0 where
  user_map : List ℕ → Change
  palette : List Rgb → Change
  resize : ℕ → ℕ → Change

-- the screen that a change makes
abbrev pub after_change : Change → Screen → Screen
after_change (user_map words) s = with_state s (record s.state { map = words })
after_change (palette colours) s = with_state s (record s.state { palette = colours })
after_change (resize rows cols) s = resized_to rows cols s
