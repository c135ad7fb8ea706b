-- A screen as contracts see it. The start screen is this project's own.
use Rattle.std.specs.List.{range_with_len}
use Rattle.std.specs.Prelude.{◌≡◌, ◌+◌, ◌-◌, ◌<◌, ◌≤◌, ◌%◌, ◌==◌, ◌&&◌, nat_lt, IsTrue, ℕ, Bool, true, false, List, map, length, slice_index_or}
use Rattle.vt_cells.specs.AttrByte.{attr_byte, erase_byte}
use Rattle.vt_cells.specs.Colours.{start_palette}
use Rattle.vt_cells.specs.Rendition.{Rendition, Tints}
use Rattle.vt_cells.specs.declared.cell.Cell.{Cell}
use Rattle.vt_cells.specs.declared.intensity.Intensity.TheVariants.{Normal}
use Rattle.vt_chars.specs.CharMap.{font_place}
use Rattle.vt_grid.specs.Grid.{IsFull, GridView, filled_grid}
use Rattle.vt_canvas.specs.declared.saved.Saved.{Saved}
use Rattle.vt_canvas.specs.declared.screen_state.ScreenState.{ScreenState}
use Rattle.vt_sgr.specs.PenState.{PenState}
use Rattle.vt_units.specs.declared.mode.Mode.{Mode}

-- the cells, and the state
pub record Screen : Type 0 where
  pub grid : GridView
  pub state : ScreenState

-- the screen with another state
abbrev pub with_state : Screen → ScreenState → Screen
with_state s state = record s { state = state }

-- the invariant of every screen: the rows are whole, the cursor is in them, a wrap is pending only in the
-- last column, the region is in the rows, there are four tables, G0 or G1 is in use, in the state and in
-- the saved part, and the user's table has all bytes
pub record IsWhole (s : Screen) : Type 0 where
  pub full : IsFull s.grid
  pub row : s.state.y < s.grid.rows
  pub column : s.state.x < s.grid.cols
  pub wrapped : IsTrue s.state.wrap → s.state.x + 1 ≡ s.grid.cols
  pub order : s.state.top ≤ s.state.bottom
  pub region : s.state.bottom < s.grid.rows
  pub tables : (s.state.g0 < 4) × (s.state.g1 < 4)
  pub invoked : s.state.shift ≤ 1
  pub saved_tables : (s.state.saved.g0 < 4) × (s.state.saved.g1 < 4)
  pub saved_shift : s.state.saved.shift ≤ 1
  pub user : length s.state.map ≡ 256

-- the mode that a screen gives its bytes
abbrev pub mode_of : Screen → Mode
mode_of s = record { utf8 = s.state.utf8; display = s.state.pen.display }

-- the attribute byte of printed characters
unfoldable pub printed_byte : Rendition → Tints → ℕ
printed_byte a l = attr_byte a l

-- the attribute byte of erased cells
unfoldable pub erased_byte : Rendition → ℕ
erased_byte a = erase_byte a

-- the attribute byte of characters that the pen prints
abbrev pub pen_byte : Screen → ℕ
pen_byte s = printed_byte s.state.pen.attr s.state.pen.look

-- a blank cell: a space in the pen's two colours
abbrev pub blank_of : Screen → Cell
blank_of s = record { code = 0x20; attr = erased_byte s.state.pen.attr }

-- there is a tab stop in this column
abbrev pub has_stop : List Bool → ℕ → Bool
has_stop stops x = slice_index_or stops x false

-- the tab stops at the start: in every eighth column except the first
abbrev pub is_start_stop : ℕ → Bool
is_start_stop x = nat_lt 0 x && x % 8 == 0

abbrev pub start_stops : List Bool
start_stops = map is_start_stop (range_with_len 0 255)

-- the user's table at the start: the null mapping
abbrev pub start_user : List ℕ
start_user = map font_place (range_with_len 0 256)

-- the attributes at the start: white on black, and nothing on
abbrev pub start_attr : Rendition
start_attr = record {
  fg = 7;
  bg = 0;
  intensity = Normal;
  italic = false;
  underline = false;
  blink = false;
  reverse = false;
}

-- the colours that stand for an underline and for half-bright at the start
abbrev pub start_look : Tints
start_look = record { ul = 15; dim = 8 }

-- the pen at the start: the default pair is white on black, and no flag of the mapping is on
abbrev pub start_pen : PenState
start_pen = record {
  attr = start_attr;
  look = start_look;
  def_fg = 7;
  def_bg = 0;
  alt = false;
  display = false;
  toggle = false;
}

-- the cursor at home, with its pen and its modes, as it is saved at the start
abbrev pub start_saved : Saved
start_saved = record { x = 0; y = 0; attr = start_attr; g0 = 0; g1 = 1; shift = 0 }

-- the start state of so many rows: the cursor at home, the region whole, G0 is table 0 and in use,
-- G1 is table 1, text is UTF-8, and of the modes autowrap, repeat and the visible cursor are on
abbrev pub start_state : ℕ → ScreenState
start_state rows = record {
  x = 0;
  y = 0;
  wrap = false;
  top = 0;
  bottom = rows - 1;
  pen = start_pen;
  g0 = 0;
  g1 = 1;
  shift = 0;
  utf8 = true;
  stops = start_stops;
  insert = false;
  newline = false;
  cursor = false;
  reverse = false;
  origin = false;
  autowrap = true;
  repeat = true;
  visible = true;
  keypad = false;
  saved = start_saved;
  palette = start_palette;
  map = start_user;
}

-- a blank cell of the start screen
abbrev pub start_blank : Cell
start_blank = record { code = 0x20; attr = 0x07 }

-- the start screen: all blank, in the start state
abbrev pub start_screen : ℕ → ℕ → Screen
start_screen rows cols = record { grid = filled_grid rows cols start_blank; state = start_state rows }
