-- How long the texts of rows are.
use Rattle.std.proofs.Common.{◌≡◌, ℕ, suc, ◌+◌, ◌*◌, ◌/◌, ◌%◌, ◌<◌, ◌≤◌, ◌==◌, ◌&&◌, nat_le, nat_lt, Bool, true, false, List, [], ◌∷◌, ◌++◌, length, take, refl, subst, arith}
use Rattle.std.specs.Prelude.{All, decimal, encode_utf8, if◌then◌else◌}
use Rattle.std.specs.Fmt.{digits}
use Rattle.std.specs.List.{list_all, range_with_len}
use Rattle.std.proofs.lemmas.Bool.{and_parts, leb-true, ltb-true}
use Rattle.std.proofs.lemmas.List.{length-append, length-take-le}
use Rattle.std.proofs.lemmas.List.Elements.{All-head, All-tail}
use Rattle.std.proofs.lemmas.Nat.{mod_below}
use Rattle.std.proofs.lemmas.Str.{len_utf8_bounds, length-encode}
use Rattle.vt_cells.specs.AttrByte.{vga}
use Rattle.vt_cells.specs.Colours.{Rgb, start_palette}
use Rattle.vt_cells.specs.Rendition.{Rendition}
use Rattle.vt_cells.specs.Width.{is_character, is_half}
use Rattle.vt_cells.specs.declared.cell.Cell.{Cell}
use Rattle.vt_cells.specs.declared.intensity.Intensity.{Intensity}
use Rattle.vt_cells.specs.declared.intensity.Intensity.TheVariants.{Bold, Dim, Normal}
use Rattle.vt_canvas.specs.Screen.{Screen, start_blank}
use Rattle.vt_canvas.specs.declared.saved.Saved.{Saved}
use Rattle.vt_canvas.specs.declared.screen_state.ScreenState.{ScreenState}
use Rattle.vt_grid.specs.Grid.{GridView, filled_grid, row_at}
use Rattle.vt_redraw.proofs.Numbers.{below_holds}
use Rattle.vt_redraw.proofs.for_laws.Redrawing.{IsState, state_parts}
use Rattle.vt_redraw.specs.Cells.{are_same, byte_change, cells_text, changed_rows, glyph_text, is_blank_end, row_text}
use Rattle.vt_redraw.specs.Drawable.{is_redrawable, is_row_drawable, is_state_drawable}
use Rattle.vt_redraw.specs.Lengths.{RedrawsAreShort, redraw_most}
use Rattle.vt_redraw.specs.Redraw.{IsStored, changes_of, redraw_of}
use Rattle.vt_redraw.specs.Sequences.{byte_text, coding_text, colour_text, erase_text, g0_text, g1_text, keypad_text, mode_text, more_numbers, place_text, private_mode_text, save_text, sequence, shift_text, start_palette_text, stop_text}
use Rattle.vt_redraw.specs.State.{attributes_text, clearing_text, colours_from, colours_text, cursor_text, intensity_number, is_same_colour, mapping_text, modes_text, palette_text, pen_text, region_text, row_number, saved_text, setting_text, state_text, stops_from, stops_text, tables_text}
use Rattle.vt_sgr.specs.PenState.{PenState}

-- the digits of a number
one_all : list_all (λ n. nat_le (length (decimal n)) 1) (range_with_len 0 10) ≡ true
unfolding digits
one_all = refl

two_all : list_all (λ n. nat_le (length (decimal n)) 2) (range_with_len 0 100) ≡ true
unfolding digits
two_all = refl

three_all : list_all (λ n. nat_le (length (decimal n)) 3) (range_with_len 0 256) ≡ true
unfolding digits
three_all = refl

pub one_digit : (n : ℕ) → n < 10 → length (decimal n) ≤ 1
one_digit n h = leb-true (length (decimal n)) 1 (below_holds (λ k. nat_le (length (decimal k)) 1) 10 one_all n h)

two_digits : (n : ℕ) → n < 100 → length (decimal n) ≤ 2
two_digits n h = leb-true (length (decimal n)) 2 (below_holds (λ k. nat_le (length (decimal k)) 2) 100 two_all n h)

pub three_digits : (n : ℕ) → n < 256 → length (decimal n) ≤ 3
three_digits n h = leb-true (length (decimal n)) 3 (below_holds (λ k. nat_le (length (decimal k)) 3) 256 three_all n h)

vga_all : list_all (λ n. nat_lt (vga n) 8) (range_with_len 0 8) ≡ true
vga_all = refl

vga_small : (n : ℕ) → vga (n % 8) < 8
vga_small n = ltb-true (vga (n % 8)) 8 (below_holds (λ k. nat_lt (vga k) 8) 8 vga_all (n % 8) (mod_below n 8 (omega arith)))

-- a control sequence
pub long : (n : ℕ) (ns : List ℕ) (last : ℕ) → length (sequence n ns last) ≡ 3 + (length (decimal n) + length (more_numbers ns))
long n ns last =
    let inner = length-append (decimal n) (more_numbers ns) in
    let outer = length-append (decimal n ++ more_numbers ns) (last ∷ []) in
    omega (arith, inner, outer)

pub more_long : (n : ℕ) (ns : List ℕ) → length (more_numbers (n ∷ ns)) ≡ 1 + (length (decimal n) + length (more_numbers ns))
more_long n ns = omega (arith, length-append (decimal n) (more_numbers ns))

-- further numbers of two digits
abbrev pub AreTwo : List ℕ → Type 0
AreTwo [] = Unit {0}
AreTwo (n ∷ ns) = (n < 100) × AreTwo ns

pub more_two : (ns : List ℕ) → AreTwo ns → length (more_numbers ns) ≤ 3 * length ns
more_two [] two = omega arith
more_two (n ∷ ns) two =
    omega (arith, more_long n ns, two_digits n two.0, more_two ns two.1)

pub two_text : (n : ℕ) (ns : List ℕ) (last : ℕ) → n < 100 → AreTwo ns → length (sequence n ns last) ≤ 5 + 3 * length ns
two_text n ns last small two = omega (arith, long n ns last, two_digits n small, more_two ns two)

pub place_short : (y x : ℕ) → y < 255 → x < 255 → length (place_text y x) ≤ 10
place_short y x row column =
    omega (arith, long (y + 1) ((x + 1) ∷ []) 0x48, three_digits (y + 1) (omega (arith, row)), more_long (x + 1) [], three_digits (x + 1) (omega (arith, column)))

pub home_short : (y : ℕ) → y < 255 → length (place_text y 0) ≤ 8
home_short y row =
    omega (arith, long (y + 1) (1 ∷ []) 0x48, three_digits (y + 1) (omega (arith, row)), more_long 1 [], one_digit 1 (omega arith))

-- an attribute byte, and a character
byte_by : (t u : Bool) (f g : ℕ) → f < 8 → g < 8
    → length (sequence 0 ((if t then 1 ∷ [] else []) ++ ((if u then 5 ∷ [] else []) ++ (30 + f) ∷ (40 + g) ∷ [])) 0x6D) ≤ 14
byte_by t u f g fg bg =
    let two : AreTwo ((30 + f) ∷ (40 + g) ∷ []) = (omega (arith, fg), (omega (arith, bg), tt)) in
    let tail = more_two ((30 + f) ∷ (40 + g) ∷ []) two in
    by t u tail
  where
    by : (t u : Bool) → length (more_numbers ((30 + f) ∷ (40 + g) ∷ [])) ≤ 6
        → length (sequence 0 ((if t then 1 ∷ [] else []) ++ ((if u then 5 ∷ [] else []) ++ (30 + f) ∷ (40 + g) ∷ [])) 0x6D) ≤ 14
    by true true tail = omega (arith, long 0 (1 ∷ 5 ∷ (30 + f) ∷ (40 + g) ∷ []) 0x6D, one_digit 0 (omega arith), more_long 1 (5 ∷ (30 + f) ∷ (40 + g) ∷ []), one_digit 1 (omega arith), more_long 5 ((30 + f) ∷ (40 + g) ∷ []), one_digit 5 (omega arith), tail)
    by true false tail = omega (arith, long 0 (1 ∷ (30 + f) ∷ (40 + g) ∷ []) 0x6D, one_digit 0 (omega arith), more_long 1 ((30 + f) ∷ (40 + g) ∷ []), one_digit 1 (omega arith), tail)
    by false true tail = omega (arith, long 0 (5 ∷ (30 + f) ∷ (40 + g) ∷ []) 0x6D, one_digit 0 (omega arith), more_long 5 ((30 + f) ∷ (40 + g) ∷ []), one_digit 5 (omega arith), tail)
    by false false tail = omega (arith, long 0 ((30 + f) ∷ (40 + g) ∷ []) 0x6D, one_digit 0 (omega arith), tail)

byte_short : (b : ℕ) → length (byte_text b) ≤ 14
unfolding byte_text
byte_short b = byte_by (b / 8 % 2 == 1) (b / 128 == 1) (vga (b % 8)) (vga (b / 16 % 8)) (vga_small b) (vga_small (b / 16))

change_short : (now b : ℕ) → length (byte_change now b) ≤ 14
change_short now b = by (now == b)
  where
    by : (t : Bool) → length (if t then [] else byte_text b) ≤ 14
    by true = omega arith
    by false = byte_short b

glyph_short : (code : ℕ) → length (glyph_text code) ≤ 4
unfolding glyph_text
glyph_short code = by (is_character code)
  where
    by : (t : Bool) → length (if t then encode_utf8 code else []) ≤ 4
    by true = omega (arith, length-encode code, (len_utf8_bounds code).1)
    by false = omega arith

erase_is : length erase_text ≡ 4
unfolding erase_text digits
erase_is = refl

-- cells, and rows of them
pub cells_short : (erases : Bool) (now : ℕ) (cells : List Cell) → length (cells_text erases now cells) ≤ 18 * length cells
cells_short erases now [] = omega arith
cells_short erases now (c ∷ cells) =
    by (erases && is_blank_end (c ∷ cells)) (is_half c) (cells_short erases now cells) (cells_short erases c.attr cells)
  where
    by : (t u : Bool) → length (cells_text erases now cells) ≤ 18 * length cells
        → length (cells_text erases c.attr cells) ≤ 18 * length cells
        → length (if t then byte_change now c.attr ++ erase_text
        else if u then cells_text erases now cells
        else byte_change now c.attr ++ (glyph_text c.code ++ cells_text erases c.attr cells)) ≤ 18 * suc (length cells)
    by true u one two =
        omega (arith, length-append (byte_change now c.attr) erase_text, change_short now c.attr, erase_is)
    by false true one two = omega (arith, one)
    by false false one two =
        omega (
          arith,
          length-append (byte_change now c.attr) (glyph_text c.code ++ cells_text erases c.attr cells),
          length-append (glyph_text c.code) (cells_text erases c.attr cells),
          change_short now c.attr,
          glyph_short c.code,
          two,
        )

row_short : (cols y : ℕ) (row : List Cell) → length row ≡ cols → y < 255 → length (row_text y row) ≤ 18 * cols + 8
row_short cols y row wide few =
    omega (arith, length-append (place_text y 0) (cells_text true 256 row), home_short y few, cells_short true 256 row, wide)

pub rows_short : (cols y : ℕ) (olds news : List (List Cell)) → All (λ (row : List Cell). length row ≡ cols) news
    → y + length news ≤ 255 → length (changed_rows y olds news) ≤ length news * (18 * cols + 8)
rows_short cols y olds [] wide few = omega arith
rows_short cols y [] (row ∷ news) wide few = omega arith
rows_short cols y (old ∷ olds) (row ∷ news) wide few =
    by (are_same old row)
    (row_short cols y row (All-head (λ (r : List Cell). length r ≡ cols) row news wide) (omega (arith, few)))
    (rows_short cols (y + 1) olds news (All-tail (λ (r : List Cell). length r ≡ cols) row news wide) (omega (arith, few)))
  where
    by : (t : Bool) → length (row_text y row) ≤ 18 * cols + 8
        → length (changed_rows (y + 1) olds news) ≤ length news * (18 * cols + 8)
        → length ((if t then [] else row_text y row) ++ changed_rows (y + 1) olds news) ≤ suc (length news) * (18 * cols + 8)
    by true one more = grind (arith, one, more)
    by false one more =
        grind (arith, length-append (row_text y row) (changed_rows (y + 1) olds news), one, more)
