-- The colours of a cell, and the classes of its text.
use Rattle.std.specs.Prelude.{ℕ, Bool, ◌/◌, ◌%◌, ◌==◌, ◌&&◌, nat_lt, List, [], codes, slice_index_or, if◌then◌else◌}
use Rattle.vt_cells.specs.AttrByte.{with_colours_swapped, vga}
use Rattle.vt_cells.specs.Colours.{Rgb}
use Rattle.vt_cells.specs.declared.cell.Cell.{Cell}
use Rattle.vt_canvas.specs.declared.screen_state.ScreenState.{ScreenState}

-- a cell's attribute byte; on a reversed screen its two colours are exchanged
unfoldable pub attribute : ScreenState → Cell → ℕ
attribute state cell = if state.reverse then with_colours_swapped cell.attr else cell.attr

-- the palette's colour of a number of VGA. `vga` exchanges blue and red, and so it is its own inverse
unfoldable pub colour : ScreenState → ℕ → Rgb
colour state n = slice_index_or state.palette (vga n) (0, 0, 0)

-- the colour of the characters: bits 0 to 3
unfoldable pub foreground : ScreenState → ℕ → Rgb
foreground state attr = colour state (attr % 16)

-- the background colour: bits 4 to 6
unfoldable pub background : ScreenState → ℕ → Rgb
background state attr = colour state (attr / 16 % 8)

-- the characters are bold: their colour is a bright one. Bright black is the grey of half-bright text
abbrev pub is_bold : ℕ → Bool
is_bold attr = nat_lt 8 (attr % 16)

-- the characters blink: bit 7
abbrev pub is_blinking : ℕ → Bool
is_blinking attr = attr / 128 == 1

-- the attribute of a text that names its classes
unfoldable pub classes : ℕ → List ℕ
classes attr =
    if is_bold attr && is_blinking attr then codes " class='bold blink'"
    else if is_bold attr then codes " class='bold'"
    else if is_blinking attr then codes " class='blink'"
    else []
