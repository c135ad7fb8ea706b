-- Effects on the state and on no cell: modes, tab stops, the region, character sets, the pen, and the saved
-- cursor (console_codes(4)); and effects on the whole screen.
use Rattle.std.specs.Prelude.{ℕ, Bool, true, false, ◌-◌, ◌==◌, ◌&&◌, nat_le, nat_lt, List, [], ◌∷◌, replicate, slice_set, if◌then◌else◌}
use Rattle.vt_cells.specs.Colours.{Rgb, start_palette}
use Rattle.vt_grid.specs.Grid.{filled_grid}
use Rattle.vt_canvas.specs.Cursor.{cursor_home, cursor_to}
use Rattle.vt_canvas.specs.Screen.{Screen, erased_byte, start_attr, start_blank, start_state, with_state}
use Rattle.vt_sgr.specs.PenState.{PenState, with_attributes, with_mapping}
use Rattle.vt_sgr.specs.Sgr.{sgr}

-- another pen
abbrev pub with_pen : Screen → PenState → Screen
with_pen s pen = with_state s (record s.state { pen = pen })

-- SO invokes G1 and shows control characters, SI invokes G0 and doesn't show them (DECCRM); both end the null
-- mapping and the toggled bit. All of this except the invoking is this project's own
unfoldable pub after_shift : ℕ → Bool → Screen → Screen
after_shift shift display s =
    with_state s
    (record s.state { shift = shift; pen = with_mapping s.state.pen false display false })

-- ESC % @ leaves UTF-8, ESC % G and ESC % 8 select it
unfoldable pub with_coding : ℕ → Screen → Screen
with_coding last s =
    if last == 0x40 then with_state s (record s.state { utf8 = false })
    else if last == 0x47 then with_state s (record s.state { utf8 = true })
    else if last == 0x38 then with_state s (record s.state { utf8 = true })
    else s

-- the table that the final byte of ESC ( or ESC ) designates: B Latin-1, 0 the VT100 graphics, U the
-- null mapping, K the user's; any other leaves the old one
abbrev pub table_named : ℕ → ℕ → ℕ
table_named last old =
    if last == 0x42 then 0
    else if last == 0x30 then 1
    else if last == 0x55 then 2
    else if last == 0x4B then 3
    else old

-- ESC ( designates G0, ESC ) G1
unfoldable pub with_g0 : ℕ → Screen → Screen
with_g0 last s = with_state s (record s.state { g0 = table_named last s.state.g0 })

unfoldable pub with_g1 : ℕ → Screen → Screen
with_g1 last s = with_state s (record s.state { g1 = table_named last s.state.g1 })

-- HTS: a stop in the cursor's column
unfoldable pub set_stop : Screen → Screen
set_stop s = with_state s (record s.state { stops = slice_set s.state.stops s.state.x true })

-- TBC: 0 clears the stop in the cursor's column, 3 all
unfoldable pub clear_stops : ℕ → Screen → Screen
clear_stops which s =
    if which == 0
    then with_state s (record s.state { stops = slice_set s.state.stops s.state.x false })
    else if which == 3 then with_state s (record s.state { stops = replicate 255 false })
    else s

-- DECPAM and DECPNM
unfoldable pub with_keypad : Bool → Screen → Screen
with_keypad on s = with_state s (record s.state { keypad = on })

-- each number in order
abbrev pub each : (ℕ → Screen → Screen) → List ℕ → Screen → Screen
each f [] s = s
each f (n ∷ numbers) s = each f numbers (f n s)

-- SM and RM: a mode on or off
unfoldable pub with_mode : Bool → ℕ → Screen → Screen
with_mode on n s =
    -- DECCRM
    if n == 3 then with_pen s (record s.state.pen { display = on })
    -- IRM
    else if n == 4 then with_state s (record s.state { insert = on })
    -- LNM
    else if n == 20 then with_state s (record s.state { newline = on })
    else s

-- DECSET and DECRST: a private mode on or off. A change of the origin takes the cursor home: this
-- project's own
unfoldable pub with_private_mode : Bool → ℕ → Screen → Screen
with_private_mode on n s =
    -- DECCKM
    if n == 1 then with_state s (record s.state { cursor = on })
    -- DECSCNM
    else if n == 5 then with_state s (record s.state { reverse = on })
    -- DECOM
    else if n == 6 then cursor_home (with_state s (record s.state { origin = on }))
    -- DECAWM
    else if n == 7 then with_state s (record s.state { autowrap = on })
    -- DECARM
    else if n == 8 then with_state s (record s.state { repeat = on })
    -- DECTECM
    else if n == 25 then with_state s (record s.state { visible = on })
    else s

-- DECSTBM: the rows t to b, counted from 1, are the region if they are at least two and on the screen; 0 for
-- b is the last row. Then the cursor goes home
unfoldable pub with_region : ℕ → ℕ → Screen → Screen
with_region t b s =
    let last = if b == 0 then s.grid.rows else b in
    if nat_lt t last && nat_le last s.grid.rows
    then cursor_home (with_state s (record s.state { top = t - 1; bottom = last - 1 }))
    else s

-- SGR
unfoldable pub after_sgr : List ℕ → Screen → Screen
after_sgr params s = with_pen s (sgr params s.state.pen)

-- DECSC: the cursor, the pen's attributes and the character sets
unfoldable pub save : Screen → Screen
save s =
    with_state s
    (record s.state {
      saved = record {
        x = s.state.x;
        y = s.state.y;
        attr = s.state.pen.attr;
        g0 = s.state.g0;
        g1 = s.state.g1;
        shift = s.state.shift;
      };
    })

-- DECRC: the saved state is restored. The cursor goes there by a move, so in origin mode into the region:
-- this project's own
unfoldable pub restore : Screen → Screen
restore s =
    let saved = s.state.saved in
    cursor_to saved.y saved.x
    (with_state s
    (record s.state {
      pen = with_attributes s.state.pen saved.attr;
      g0 = saved.g0;
      g1 = saved.g1;
      shift = saved.shift;
    }))

-- RIS: the start screen. The default pair, the colours for underline and half-bright, the palette
-- and the user's table are kept: this project's own
unfoldable pub reset : Screen → Screen
reset s = record {
  grid = filled_grid s.grid.rows s.grid.cols start_blank;
  state = record (start_state s.grid.rows) {
    pen = with_mapping (with_attributes s.state.pen start_attr) false false false;
    palette = s.state.palette;
    map = s.state.map;
  };
}

-- DECALN: every cell is an E in the colours of erased ones
unfoldable pub alignment_pattern : Screen → Screen
alignment_pattern s =
    record s {
      grid =
          filled_grid s.grid.rows s.grid.cols
          (record { code = 0x45; attr = erased_byte s.state.pen.attr });
    }

-- ESC ] P: another colour of the palette, which has 16
unfoldable pub with_colour : ℕ → Rgb → Screen → Screen
with_colour n rgb s =
    if nat_lt n 16
    then with_state s (record s.state { palette = slice_set s.state.palette n rgb })
    else s

-- ESC ] R: the palette as at the start
unfoldable pub with_start_palette : Screen → Screen
with_start_palette s = with_state s (record s.state { palette = start_palette })
