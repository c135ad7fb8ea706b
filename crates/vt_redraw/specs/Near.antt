-- The nearest screen that a text can draw.
use Rattle.std.specs.List.{list_all}
use Rattle.std.specs.Prelude.{◌≡◌, ◌⊎◌, ℕ, Bool, not, ◌-◌, ◌%◌, ◌==◌, ◌&&◌, ◌||◌, nat_lt, min, All, ◌<◌, IsTrue, List, [], ◌∷◌, map, if◌then◌else◌}
use Rattle.vt_cells.specs.Rendition.{Rendition}
use Rattle.vt_cells.specs.Width.{columns, is_half}
use Rattle.vt_cells.specs.declared.cell.Cell.{Cell}
use Rattle.vt_chars.specs.Utf8.{within}
use Rattle.vt_redraw.specs.Drawable.{is_glyph, is_plain_pair, is_redrawable, is_row_drawable}
use Rattle.vt_redraw.specs.Redraw.{IsSameSize, IsStored, Redraws, redraw_of}
use Rattle.vt_redraw.specs.declared.leaving_out.LeftOut.{LeftOut}
use Rattle.vt_canvas.specs.Screen.{IsWhole, Screen}
use Rattle.vt_canvas.specs.declared.saved.Saved.{Saved}
use Rattle.vt_canvas.specs.declared.screen_state.ScreenState.{ScreenState}

-- the replacement character, with the same attribute byte
abbrev pub replaced : Cell → Cell
replaced c = record { code = 0xFFFD; attr = c.attr }

-- the character takes one column
abbrev pub is_narrow : Cell → Bool
is_narrow c = is_glyph c.code && not (columns c.code == 2)

-- the character takes two columns
abbrev pub is_wide : Cell → Bool
is_wide c = is_glyph c.code && columns c.code == 2

-- the cell is the right half of the character before it
abbrev pub is_half_of : Cell → Cell → Bool
is_half_of c next = is_half next && next.attr == c.attr

-- a cell that isn't a part of a character of two columns
abbrev pub near_cell : Cell → Cell
near_cell c = if is_narrow c then c else replaced c

-- each cell that isn't a character that prints itself, or a part of one, is replaced
abbrev pub near_row : List Cell → List Cell
near_row [] = []
near_row (c ∷ []) = near_cell c ∷ []
near_row (c ∷ (next ∷ cells)) =
    if is_wide c && is_half_of c next then c ∷ next ∷ near_row cells
    else near_cell c ∷ near_row (next ∷ cells)

-- the colours without brightness
abbrev pub plain_pair : Rendition → Rendition
plain_pair a = record a { fg = a.fg % 8; bg = a.bg % 8 }

-- the saved cursor, as far as the screen goes
abbrev pub near_saved : ℕ → ℕ → Saved → Saved
near_saved rows cols v =
    record v { attr = plain_pair v.attr; y = min v.y (rows - 1); x = min v.x (cols - 1) }

-- a region of two rows or more, or of a screen of one row
abbrev pub is_region : ℕ → ScreenState → Bool
is_region rows s = nat_lt s.top s.bottom || rows == 1

-- the state: colours aren't bright, the saved cursor is on the screen, a region of one row is the whole screen, in
-- origin mode the cursor is in the region, and the high bit is changed only in the null mapping
abbrev pub near_state : ℕ → ℕ → ScreenState → ScreenState
near_state rows cols s =
    let top = if is_region rows s then s.top else 0 in
    let bottom = if is_region rows s then s.bottom else rows - 1 in
    record s {
      pen =
          record s.pen {
            attr = plain_pair s.pen.attr;
            def_fg = s.pen.def_fg % 8;
            def_bg = s.pen.def_bg % 8;
            toggle = s.pen.toggle && s.pen.alt;
          };
      saved = near_saved rows cols s.saved;
      top = top;
      bottom = bottom;
      origin = s.origin && within top bottom s.y;
    }

-- the nearest screen that a text can draw
abbrev pub near : Screen → Screen
near s = record {
  grid = record s.grid { cells = map near_row s.grid.cells };
  state = near_state s.grid.rows s.grid.cols s.state;
}

-- which parts of a screen its nearest one changes: cells, the colours of the pen, of the default pair or of the saved
-- pen, the place of the saved cursor, the region, origin mode, the change of the high bit
abbrev pub left_out : Screen → LeftOut
left_out s =
    let near_s = near_state s.grid.rows s.grid.cols s.state in
    record {
      cells = not (list_all is_row_drawable s.grid.cells);
      colours =
          not
          (is_plain_pair s.state.pen.attr
          && is_plain_pair s.state.saved.attr
          && nat_lt s.state.pen.def_fg 8
          && nat_lt s.state.pen.def_bg 8);
      saved = not (nat_lt s.state.saved.y s.grid.rows && nat_lt s.state.saved.x s.grid.cols);
      region = not (is_region s.grid.rows s.state);
      origin = s.state.origin && not (within near_s.top near_s.bottom s.state.y);
      high_bit = s.state.pen.toggle && not s.state.pen.alt;
    }

-- one part or more is left out
abbrev pub is_left_out : LeftOut → Bool
is_left_out l = l.cells || l.colours || l.saved || l.region || l.origin || l.high_bit

-- a screen is drawable exactly if nothing of it is left out
abbrev pub NothingIsLeftOut : Type 0
NothingIsLeftOut = (s : Screen) → is_redrawable s ≡ not (is_left_out (left_out s))

-- every attribute is a byte
abbrev pub HasBytes : Screen → Type 0
HasBytes s = All (λ (row : List Cell). All (λ (c : Cell). c.attr < 256) row) s.grid.cells

-- it is drawable
abbrev pub NearIsDrawn : Type 0
NearIsDrawn = (s : Screen) → HasBytes s → 0 < s.grid.rows → 0 < s.grid.cols → IsTrue (is_redrawable (near s))

-- the text of the nearest screen draws it on every screen of its size
abbrev pub NearRedraws : Type 0
NearRedraws =
    (s other : Screen) → IsStored s → HasBytes s → IsWhole other → IsSameSize other.grid s.grid
    → Redraws (near s) other (redraw_of (near s))

-- a screen that is drawable is its own nearest one
abbrev pub DrawableStays : Type 0
DrawableStays = (s : Screen) → IsTrue (is_redrawable s) → near s ≡ s

-- cell by cell it is the screen, except the cells that are replaced
abbrev pub IsNearCell : Cell → Cell → Type 0
IsNearCell c new = (new ≡ c) ⊎ (new ≡ replaced c)

abbrev pub AreNearCells : List Cell → List Cell → Type 0
AreNearCells [] [] = Unit {0}
AreNearCells [] (n ∷ news) = ⊥
AreNearCells (c ∷ cells) [] = ⊥
AreNearCells (c ∷ cells) (n ∷ news) = IsNearCell c n × AreNearCells cells news

abbrev pub RowsAreNear : Type 0
RowsAreNear = (row : List Cell) → AreNearCells row (near_row row)
