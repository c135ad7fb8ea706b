-- How long the texts of redraws are.
use Rattle.std.proofs.Common.{◌≡◌, ℕ, suc, ◌+◌, ◌*◌, ◌/◌, ◌%◌, ◌<◌, ◌≤◌, ◌==◌, ◌&&◌, nat_le, nat_lt, Bool, true, false, List, [], ◌∷◌, ◌++◌, length, take, refl, subst, arith}
use Rattle.std.specs.Prelude.{All, decimal, encode_utf8, if◌then◌else◌}
use Rattle.std.specs.Fmt.{digits}
use Rattle.std.specs.List.{list_all, range_with_len}
use Rattle.std.proofs.lemmas.Bool.{and_parts, leb-true, ltb-true}
use Rattle.std.proofs.lemmas.List.{length-append, length-take-le}
use Rattle.std.proofs.lemmas.List.Elements.{All-head, All-tail}
use Rattle.std.proofs.lemmas.Nat.{mod_below}
use Rattle.std.proofs.lemmas.Str.{len_utf8_bounds, length-encode}
use Rattle.vt_cells.specs.AttrByte.{vga}
use Rattle.vt_cells.specs.Colours.{Rgb, start_palette}
use Rattle.vt_cells.specs.Rendition.{Rendition}
use Rattle.vt_cells.specs.Width.{is_character, is_half}
use Rattle.vt_cells.specs.declared.cell.Cell.{Cell}
use Rattle.vt_cells.specs.declared.intensity.Intensity.{Intensity}
use Rattle.vt_cells.specs.declared.intensity.Intensity.TheVariants.{Bold, Dim, Normal}
use Rattle.vt_canvas.specs.Screen.{Screen, start_blank}
use Rattle.vt_canvas.specs.declared.saved.Saved.{Saved}
use Rattle.vt_canvas.specs.declared.screen_state.ScreenState.{ScreenState}
use Rattle.vt_grid.specs.Grid.{GridView, filled_grid, row_at}
use Rattle.vt_redraw.proofs.Numbers.{below_holds}
use Rattle.vt_redraw.proofs.for_laws.Redrawing.{IsState, state_parts}
use Rattle.vt_redraw.proofs.for_laws.RowLengths.{AreTwo, cells_short, home_short, long, more_long, more_two, one_digit, place_short, rows_short, three_digits, two_text}
use Rattle.vt_redraw.specs.Cells.{are_same, byte_change, cells_text, changed_rows, glyph_text, is_blank_end, row_text}
use Rattle.vt_redraw.specs.Drawable.{is_redrawable, is_row_drawable, is_state_drawable}
use Rattle.vt_redraw.specs.Lengths.{RedrawsAreShort, redraw_most}
use Rattle.vt_redraw.specs.Redraw.{IsStored, changes_of, redraw_of}
use Rattle.vt_redraw.specs.Sequences.{byte_text, coding_text, colour_text, erase_text, g0_text, g1_text, keypad_text, mode_text, more_numbers, place_text, private_mode_text, save_text, sequence, shift_text, start_palette_text, stop_text}
use Rattle.vt_redraw.specs.State.{attributes_text, clearing_text, colours_from, colours_text, cursor_text, intensity_number, is_same_colour, mapping_text, modes_text, palette_text, pen_text, region_text, row_number, saved_text, setting_text, state_text, stops_from, stops_text, tables_text}
use Rattle.vt_sgr.specs.PenState.{PenState}

-- tab stops
stop_is : length stop_text ≡ 2
unfolding stop_text
stop_is = refl

stops_short : (x : ℕ) (stops : List Bool) → x + length stops ≤ 255 → length (stops_from x stops) ≤ 8 * length stops
stops_short x [] few = omega arith
stops_short x (stop ∷ stops) few = by stop (stops_short (x + 1) stops (omega (arith, few)))
  where
    by : (t : Bool) → length (stops_from (x + 1) stops) ≤ 8 * length stops
        → length ((if t then sequence (x + 1) [] 0x47 ++ stop_text else []) ++ stops_from (x + 1) stops) ≤ 8 * suc (length stops)
    by true more =
        omega (
          arith,
          length-append (sequence (x + 1) [] 0x47 ++ stop_text) (stops_from (x + 1) stops),
          length-append (sequence (x + 1) [] 0x47) stop_text,
          long (x + 1) [] 0x47,
          three_digits (x + 1) (omega (arith, few)),
          stop_is,
          more,
        )
    by false more = omega (arith, more)

all_stops_short : (cols : ℕ) (stops : List Bool) → cols ≤ 255 → length stops ≡ 255 → length (stops_text cols stops) ≤ 4 + 8 * cols
all_stops_short cols stops few many =
    let count : length (take cols stops) ≡ cols = length-take-le cols stops (omega (arith, few, many)) in
    omega (
      arith,
      length-append (sequence 3 [] 0x67) (stops_from 0 (take cols stops)),
      long 3 [] 0x67,
      one_digit 3 (omega arith),
      stops_short 0 (take cols stops) (omega (arith, count, few)),
      count,
    )

-- the pens
either : (t : Bool) (a b : ℕ) → a < 100 → b < 100 → (if t then a else b) < 100
either true a b one two = one
either false a b one two = two

intensity_small : (i : Intensity) → intensity_number i < 100
intensity_small Dim = omega arith
intensity_small Normal = omega arith
intensity_small Bold = omega arith

attributes_short : (a : Rendition) → a.fg < 8 → a.bg < 8 → length (attributes_text a) ≤ 23
unfolding attributes_text
attributes_short a fg bg =
    two_text (30 + a.fg)
    ((40 + a.bg)
    ∷ intensity_number a.intensity
    ∷ (if a.italic then 3 else 23)
    ∷ (if a.underline then 4 else 24)
    ∷ (if a.blink then 5 else 25)
    ∷ (if a.reverse then 7 else 27)
    ∷ [])
    0x6D (omega (arith, fg)) (
      omega (arith, bg),
      (
        intensity_small a.intensity,
        (
          either a.italic 3 23 (omega arith) (omega arith),
          (
            either a.underline 4 24 (omega arith) (omega arith),
            (
              either a.blink 5 25 (omega arith) (omega arith),
              (either a.reverse 7 27 (omega arith) (omega arith), tt),
            ),
          ),
        ),
      ),
    )

mode_is : (on : Bool) → length (mode_text 3 on) ≡ 4
unfolding mode_text digits
mode_is true = refl
mode_is false = refl

tables_is : (g0 g1 shift : ℕ) → length (tables_text g0 g1 shift) ≡ 11
unfolding tables_text g0_text g1_text shift_text mode_text digits
tables_is g0 g1 shift = refl

save_is : length save_text ≡ 2
unfolding save_text
save_is = refl

saved_short : (v : Saved) → v.attr.fg < 8 → v.attr.bg < 8 → v.y < 255 → v.x < 255 → length (saved_text v) ≤ 46
saved_short v fg bg row column =
    omega (
      arith,
      length-append (attributes_text v.attr) (tables_text v.g0 v.g1 v.shift ++ (place_text v.y v.x ++ save_text)),
      length-append (tables_text v.g0 v.g1 v.shift) (place_text v.y v.x ++ save_text),
      length-append (place_text v.y v.x) save_text,
      attributes_short v.attr fg bg,
      tables_is v.g0 v.g1 v.shift,
      place_short v.y v.x row column,
      save_is,
    )

mapping_short : (alt toggle : Bool) → length (mapping_text alt toggle) ≤ 5
unfolding mapping_text digits
mapping_short true true = omega arith
mapping_short true false = omega arith
mapping_short false toggle = omega arith

colours_short : (p : PenState) → p.look.ul < 16 → p.look.dim < 16 → p.def_fg < 8 → p.def_bg < 8 → length (colours_text p) ≤ 26
colours_short p ul dim fg bg =
    let fore = sequence (30 + p.def_fg) ((40 + p.def_bg) ∷ []) 0x6D in
    let second = sequence 2 (p.look.dim ∷ []) 0x5D in
    omega (
      arith,
      length-append (sequence 1 (p.look.ul ∷ []) 0x5D) (second ++ (fore ++ sequence 8 [] 0x5D)),
      length-append second (fore ++ sequence 8 [] 0x5D),
      length-append fore (sequence 8 [] 0x5D),
      long 1 (p.look.ul ∷ []) 0x5D,
      one_digit 1 (omega arith),
      more_two (p.look.ul ∷ []) (omega (arith, ul), tt),
      long 2 (p.look.dim ∷ []) 0x5D,
      one_digit 2 (omega arith),
      more_two (p.look.dim ∷ []) (omega (arith, dim), tt),
      two_text (30 + p.def_fg) ((40 + p.def_bg) ∷ []) 0x6D (omega (arith, fg)) (omega (arith, bg), tt),
      long 8 [] 0x5D,
      one_digit 8 (omega arith),
    )

pen_short : (s : ScreenState) → s.pen.attr.fg < 8 → s.pen.attr.bg < 8 → length (colours_text s.pen) ≤ 26 → length (pen_text s) ≤ 69
pen_short s fg bg colours =
    let attributes = attributes_text s.pen.attr in
    let tables = tables_text s.g0 s.g1 s.shift in
    let mapping = mapping_text s.pen.alt s.pen.toggle in
    omega (
      arith,
      length-append (colours_text s.pen) (attributes ++ (tables ++ (mapping ++ mode_text 3 s.pen.display))),
      length-append attributes (tables ++ (mapping ++ mode_text 3 s.pen.display)),
      length-append tables (mapping ++ mode_text 3 s.pen.display),
      length-append mapping (mode_text 3 s.pen.display),
      colours,
      attributes_short s.pen.attr fg bg,
      tables_is s.g0 s.g1 s.shift,
      mapping_short s.pen.alt s.pen.toggle,
      mode_is s.pen.display,
    )

-- the palette
colour_is : (n : ℕ) (rgb : Rgb) → length (colour_text n rgb) ≡ 10
unfolding colour_text
colour_is n (r, g, b) = refl

all_colours_short : (n : ℕ) (starts colours : List Rgb) → length (colours_from n starts colours) ≤ 10 * length colours
all_colours_short n starts [] = omega arith
all_colours_short n [] (rgb ∷ colours) = omega arith
all_colours_short n (start ∷ starts) (rgb ∷ colours) = by (is_same_colour start rgb) (all_colours_short (n + 1) starts colours)
  where
    by : (t : Bool) → length (colours_from (n + 1) starts colours) ≤ 10 * length colours
        → length ((if t then [] else colour_text n rgb) ++ colours_from (n + 1) starts colours) ≤ 10 * suc (length colours)
    by true more = omega (arith, more)
    by false more = omega (arith, length-append (colour_text n rgb) (colours_from (n + 1) starts colours), colour_is n rgb, more)

start_palette_is : length start_palette_text ≡ 3
unfolding start_palette_text
start_palette_is = refl

palette_short : (colours : List Rgb) → length colours ≡ 16 → length (palette_text colours) ≤ 163
palette_short colours many =
    omega (
      arith,
      length-append start_palette_text (colours_from 0 start_palette colours),
      start_palette_is,
      all_colours_short 0 start_palette colours,
      many,
    )

-- the modes
modes_is : (s : ScreenState) → length (modes_text s) ≡ 40
unfolding mode_text private_mode_text keypad_text coding_text digits
modes_is s = refl

-- the region and the cursor
origin_is : (on : Bool) → length (private_mode_text 6 on) ≡ 5
unfolding private_mode_text digits
origin_is on = refl

region_short : (s : ScreenState) → s.top < 255 → s.bottom < 255 → length (region_text s) ≤ 15
region_short s top bottom = by (nat_lt s.top s.bottom) (origin_is s.origin)
  where
    by : (t : Bool) → length (private_mode_text 6 s.origin) ≡ 5
        → length ((if t then sequence (s.top + 1) ((s.bottom + 1) ∷ []) 0x72 else []) ++ private_mode_text 6 s.origin) ≤ 15
    by true origin =
        omega (
          arith,
          length-append (sequence (s.top + 1) ((s.bottom + 1) ∷ []) 0x72) (private_mode_text 6 s.origin),
          long (s.top + 1) ((s.bottom + 1) ∷ []) 0x72,
          three_digits (s.top + 1) (omega (arith, top)),
          more_long (s.bottom + 1) [],
          three_digits (s.bottom + 1) (omega (arith, bottom)),
          origin,
        )
    by false origin = omega (arith, origin)

cursor_short : (s : Screen) → s.state.y < 255 → s.state.x < 255 → length (row_at s.grid s.state.y) ≡ s.grid.cols
    → length (cursor_text s) ≤ 10 + 18 * s.grid.cols
cursor_short s row column wide = by s.state.wrap
  where
    up : row_number s.state < 255
    up = omega (arith, row)

    by : (t : Bool) → length (if t
        then place_text (row_number s.state) 0 ++ cells_text false 256 (row_at s.grid s.state.y)
        else place_text (row_number s.state) s.state.x) ≤ 10 + 18 * s.grid.cols
    by true =
        omega (
          arith,
          length-append (place_text (row_number s.state) 0) (cells_text false 256 (row_at s.grid s.state.y)),
          home_short (row_number s.state) up,
          cells_short false 256 (row_at s.grid s.state.y),
          wide,
        )
    by false = omega (arith, place_short (row_number s.state) s.state.x up column)

-- the state
state_short : (s : Screen) → IsStored s → IsState s.grid.rows s.grid.cols s.state → length (state_text s) ≤ 347 + 26 * s.grid.cols
state_short s stored is =
    let v = s.state in
    let modes = modes_text v in
    let colours = palette_text v.palette ++ modes in
    let pens = pen_text v ++ colours in
    let cursors = cursor_text s ++ pens in
    let regions = region_text v ++ cursors in
    let saves = saved_text v.saved ++ regions in
    let row : v.y < 255 = omega (arith, stored.whole.row, stored.rows) in
    let column : v.x < 255 = omega (arith, stored.whole.column, stored.cols) in
    let bottom : v.bottom < 255 = omega (arith, stored.whole.region, stored.rows) in
    let top : v.top < 255 = omega (arith, stored.whole.order, bottom) in
    let wide : length (row_at s.grid v.y) ≡ s.grid.cols =
    stored.whole.full.wide v.y [] (omega (arith, stored.whole.row, stored.whole.full.tall)) in
    omega (
      arith,
      length-append (stops_text s.grid.cols v.stops) saves,
      length-append (saved_text v.saved) regions,
      length-append (region_text v) cursors,
      length-append (cursor_text s) pens,
      length-append (pen_text v) colours,
      length-append (palette_text v.palette) modes,
      all_stops_short s.grid.cols v.stops stored.cols stored.stops,
      saved_short v.saved is.saved_fg is.saved_bg (omega (arith, is.saved_row, stored.rows)) (omega (arith, is.saved_column, stored.cols)),
      region_short v top bottom,
      cursor_short s row column wide,
      pen_short v is.fg is.bg (colours_short v.pen stored.look.0 stored.look.1 is.def_fg is.def_bg),
      palette_short v.palette stored.colours,
      modes_is v,
    )

setting_is : length setting_text ≡ 18
unfolding coding_text shift_text mode_text private_mode_text digits
setting_is = refl

clearing_is : length clearing_text ≡ 12
unfolding digits
clearing_is = refl

drawn : (s : Screen) → is_redrawable s ≡ true → IsState s.grid.rows s.grid.cols s.state
unfolding is_redrawable
drawn s is =
    state_parts s.grid.rows s.grid.cols s.state
    (and_parts (list_all is_row_drawable s.grid.cells) (is_state_drawable s.grid.rows s.grid.cols s.state) is).1

-- the rows that differ, whatever they differ from
all_rows_short : (s : Screen) → IsStored s → (olds : List (List Cell))
    → length (changed_rows 0 olds s.grid.cells) ≤ s.grid.rows * (18 * s.grid.cols + 8)
all_rows_short s stored olds =
    let few : 0 + length s.grid.cells ≤ 255 = omega (arith, stored.whole.full.tall, stored.rows) in
    subst (λ (n : ℕ). length (changed_rows 0 olds s.grid.cells) ≤ n * (18 * s.grid.cols + 8)) stored.whole.full.tall
    (rows_short s.grid.cols 0 olds s.grid.cells stored.whole.full.wide few)

whole_short : (s : Screen) → IsStored s → is_redrawable s ≡ true → length (redraw_of s) ≤ redraw_most s.grid.rows s.grid.cols
unfolding redraw_of
whole_short s stored is =
    let olds = (filled_grid s.grid.rows s.grid.cols start_blank).cells in
    let rows = changed_rows 0 olds s.grid.cells in
    omega (
      arith,
      length-append setting_text (clearing_text ++ (rows ++ state_text s)),
      length-append clearing_text (rows ++ state_text s),
      length-append rows (state_text s),
      setting_is,
      clearing_is,
      all_rows_short s stored olds,
      state_short s stored (drawn s is),
    )

changes_short : (s : Screen) (old : GridView) → IsStored s → is_redrawable s ≡ true
    → length (changes_of old s) ≤ redraw_most s.grid.rows s.grid.cols
unfolding changes_of
changes_short s old stored is =
    let rows = changed_rows 0 old.cells s.grid.cells in
    omega (
      arith,
      length-append setting_text (rows ++ state_text s),
      length-append rows (state_text s),
      setting_is,
      all_rows_short s stored old.cells,
      state_short s stored (drawn s is),
    )

pub redraws_are_short : RedrawsAreShort
redraws_are_short s stored is = (whole_short s stored is, λ old. changes_short s old stored is)
