-- The text of a screen's state. The parts that need motions come first; the region and origin mode home the
-- cursor, so they come before it; a character makes a pending wrap, so the modes that change how a
-- character is printed come after it.
use Rattle.std.specs.Prelude.{ℕ, Bool, true, false, ◌+◌, ◌-◌, ◌==◌, ◌&&◌, nat_lt, List, [], ◌∷◌, ◌++◌, take, if◌then◌else◌}
use Rattle.vt_cells.specs.Colours.{Rgb, start_palette}
use Rattle.vt_cells.specs.Rendition.{Rendition}
use Rattle.vt_cells.specs.declared.intensity.Intensity.{Intensity}
use Rattle.vt_cells.specs.declared.intensity.Intensity.TheVariants.{Bold, Dim, Normal}
use Rattle.vt_grid.specs.Grid.{row_at}
use Rattle.vt_redraw.specs.Cells.{cells_text}
use Rattle.vt_redraw.specs.Sequences.{coding_text, colour_text, g0_text, g1_text, keypad_text, mode_text, place_text, private_mode_text, save_text, sequence, shift_text, start_palette_text, stop_text}
use Rattle.vt_canvas.specs.Screen.{Screen}
use Rattle.vt_canvas.specs.declared.saved.Saved.{Saved}
use Rattle.vt_canvas.specs.declared.screen_state.ScreenState.{ScreenState}
use Rattle.vt_sgr.specs.PenState.{PenState}

-- the modes that rows are drawn in, whatever state the screen is in: UTF-8, no control character shown, no
-- insert mode, rows counted from the first one, and autowrap
abbrev pub setting_text : List ℕ
setting_text =
    coding_text true
    ++ (shift_text 0
    ++ (mode_text 4 false
    ++ (private_mode_text 6 false
    ++ private_mode_text 7 true)))

-- every cell a space, white on black
abbrev pub clearing_text : List ℕ
clearing_text = sequence 37 (40 ∷ []) 0x6D ++ sequence 2 [] 0x4A

-- a tab stop in each of these columns from x on that has one
abbrev pub stops_from : ℕ → List Bool → List ℕ
stops_from x [] = []
stops_from x (stop ∷ stops) =
    (if stop then sequence (x + 1) [] 0x47 ++ stop_text else []) ++ stops_from (x + 1) stops

-- the tab stops of so many columns, and no others
abbrev pub stops_text : ℕ → List Bool → List ℕ
stops_text cols stops = sequence 3 [] 0x67 ++ stops_from 0 (take cols stops)

abbrev pub intensity_number : Intensity → ℕ
intensity_number Dim = 2
intensity_number Normal = 22
intensity_number Bold = 1

-- SGR with a number for each attribute
unfoldable pub attributes_text : Rendition → List ℕ
attributes_text a =
    sequence (30 + a.fg)
    ((40 + a.bg)
    ∷ intensity_number a.intensity
    ∷ (if a.italic then 3 else 23)
    ∷ (if a.underline then 4 else 24)
    ∷ (if a.blink then 5 else 25)
    ∷ (if a.reverse then 7 else 27)
    ∷ [])
    0x6D

-- G0, G1 and the number of the one in use. SO shows control characters, and RM 3 ends that
unfoldable pub tables_text : ℕ → ℕ → ℕ → List ℕ
tables_text g0 g1 shift = g0_text g0 ++ (g1_text g1 ++ (shift_text shift ++ mode_text 3 false))

-- the saved state
abbrev pub saved_text : Saved → List ℕ
saved_text v =
    attributes_text v.attr ++ (tables_text v.g0 v.g1 v.shift ++ (place_text v.y v.x ++ save_text))

-- the region, of at least two rows, and origin mode
abbrev pub region_text : ScreenState → List ℕ
region_text s =
    (if nat_lt s.top s.bottom then sequence (s.top + 1) ((s.bottom + 1) ∷ []) 0x72 else [])
    ++ private_mode_text 6 s.origin

-- the row of the cursor as CUP counts it
abbrev pub row_number : ScreenState → ℕ
row_number s = s.y - (if s.origin then s.top else 0)

-- the cursor. If a wrap is pending, its row is drawn to its end once more
abbrev pub cursor_text : Screen → List ℕ
cursor_text s =
    if s.state.wrap
    then place_text (row_number s.state) 0 ++ cells_text false 256 (row_at s.grid s.state.y)
    else place_text (row_number s.state) s.state.x

-- the colours for underline and half-bright, and the default pair
abbrev pub colours_text : PenState → List ℕ
colours_text p =
    sequence 1 (p.look.ul ∷ []) 0x5D
    ++ (sequence 2 (p.look.dim ∷ []) 0x5D
    ++ (sequence (30 + p.def_fg) ((40 + p.def_bg) ∷ []) 0x6D
    ++ sequence 8 [] 0x5D))

-- the null mapping, with the high bit changed or not
unfoldable pub mapping_text : Bool → Bool → List ℕ
mapping_text alt toggle = if alt then sequence (if toggle then 12 else 11) [] 0x6D else []

-- the pen, the tables, and whether control characters are shown
abbrev pub pen_text : ScreenState → List ℕ
pen_text s =
    colours_text s.pen
    ++ (attributes_text s.pen.attr
    ++ (tables_text s.g0 s.g1 s.shift
    ++ (mapping_text s.pen.alt s.pen.toggle
    ++ mode_text 3 s.pen.display)))

-- the parts of a colour are the same
abbrev pub is_same_colour : Rgb → Rgb → Bool
is_same_colour (r, g, b) (s, h, c) = r == s && g == h && b == c

-- the colours from number n on that differ from those at the start
abbrev pub colours_from : ℕ → List Rgb → List Rgb → List ℕ
colours_from n starts [] = []
colours_from n [] (rgb ∷ colours) = []
colours_from n (start ∷ starts) (rgb ∷ colours) =
    (if is_same_colour start rgb then [] else colour_text n rgb) ++ colours_from (n + 1) starts colours

abbrev pub palette_text : List Rgb → List ℕ
palette_text colours = start_palette_text ++ colours_from 0 start_palette colours

-- the remaining modes, each on or off
abbrev pub modes_text : ScreenState → List ℕ
modes_text s =
    mode_text 4 s.insert
    ++ (mode_text 20 s.newline
    ++ (private_mode_text 1 s.cursor
    ++ (private_mode_text 5 s.reverse
    ++ (private_mode_text 7 s.autowrap
    ++ (private_mode_text 8 s.repeat
    ++ (private_mode_text 25 s.visible
    ++ (keypad_text s.keypad
    ++ coding_text s.utf8)))))))

-- the state
abbrev pub state_text : Screen → List ℕ
state_text s =
    stops_text s.grid.cols s.state.stops
    ++ (saved_text s.state.saved
    ++ (region_text s.state
    ++ (cursor_text s
    ++ (pen_text s.state
    ++ (palette_text s.state.palette
    ++ modes_text s.state)))))
