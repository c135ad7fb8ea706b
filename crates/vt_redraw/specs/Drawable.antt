-- The screens that a text can draw.
use Rattle.std.specs.Prelude.{ℕ, Bool, false, not, ◌==◌, ◌&&◌, ◌||◌, nat_le, nat_lt, List, [], ◌∷◌, if◌then◌else◌}
use Rattle.std.specs.List.{list_all}
use Rattle.vt_cells.specs.Rendition.{Rendition}
use Rattle.vt_cells.specs.Width.{columns, is_character, is_half}
use Rattle.vt_cells.specs.declared.cell.Cell.{Cell}
use Rattle.vt_chars.specs.Utf8.{within}
use Rattle.vt_canvas.specs.Screen.{Screen}
use Rattle.vt_canvas.specs.declared.screen_state.ScreenState.{ScreenState}

-- the character prints itself: it is no control character and takes one column or two
unfoldable pub is_glyph : ℕ → Bool
is_glyph code =
    is_character code && nat_le 0x20 code && not (within 0x7F 0x9F code) && nat_le 1 (columns code)

-- each cell has a character that prints itself, and one of two columns is followed by its right half, with
-- the same byte. It is given whether these cells follow such a character, and its byte
abbrev pub are_drawable : Bool → ℕ → List Cell → Bool
are_drawable wide attr [] = not wide
are_drawable wide attr (c ∷ cells) =
    if wide then is_half c && c.attr == attr && are_drawable false 0 cells
    else is_glyph c.code && nat_lt c.attr 256 && are_drawable (columns c.code == 2) c.attr cells

abbrev pub is_row_drawable : List Cell → Bool
is_row_drawable row = are_drawable false 0 row

-- colours that SGR has numbers for
abbrev pub is_plain_pair : Rendition → Bool
is_plain_pair a = nat_lt a.fg 8 && nat_lt a.bg 8

-- a text can make this state on a screen of so many rows and columns: the colours are plain, the saved
-- cursor is on the screen, the region has two rows or the screen has one, in origin mode the cursor is in
-- the region, and a byte's high bit is changed only in the null mapping
unfoldable pub is_state_drawable : ℕ → ℕ → ScreenState → Bool
is_state_drawable rows cols s =
    is_plain_pair s.pen.attr
    && is_plain_pair s.saved.attr
    && nat_lt s.pen.def_fg 8
    && nat_lt s.pen.def_bg 8
    && nat_lt s.saved.y rows
    && nat_lt s.saved.x cols
    && (nat_lt s.top s.bottom || rows == 1)
    && (not s.origin || within s.top s.bottom s.y)
    && (not s.pen.toggle || s.pen.alt)

-- a text can draw the screen
unfoldable pub is_redrawable : Screen → Bool
is_redrawable s =
    list_all is_row_drawable s.grid.cells && is_state_drawable s.grid.rows s.grid.cols s.state
