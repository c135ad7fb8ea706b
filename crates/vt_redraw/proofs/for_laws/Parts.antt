-- The parts of a redraw's text.
use Rattle.std.proofs.Common.{◌≡◌, ℕ, zero, suc, ◌+◌, ◌/◌, ◌%◌, ◌<◌, ◌≤◌, ◌==◌, ◌&&◌, ◌||◌, Bool, true, false, List, [], ◌∷◌, ◌++◌, length, take, nat_lt, nat_le, refl, sym, subst, cond, arith, append-nil, append_assoc, ltb-true}
use Rattle.std.specs.Prelude.{encode_utf8, slice_index_or}
use Rattle.std.specs.List.{list_all}
use Rattle.std.proofs.lemmas.Bool.{agree_below_at, and_from, and_parts, both_ways, cond-true, eq-eqb, le-leb, lt-ltb, or_left, or_right}
use Rattle.vt_cells.specs.AttrByte.{vga}
use Rattle.vt_cells.specs.Colours.{Rgb, start_palette}
use Rattle.vt_cells.specs.Rendition.{Rendition}
use Rattle.vt_cells.specs.Width.{columns, is_character, is_half}
use Rattle.vt_cells.specs.declared.cell.Cell.{Cell}
use Rattle.vt_cells.specs.declared.intensity.Intensity.{Intensity}
use Rattle.vt_cells.specs.declared.intensity.Intensity.TheVariants.{Bold, Dim, Normal}
use Rattle.vt_grid.specs.Grid.{filled_grid}
use Rattle.vt_redraw.proofs.Prints.{glyph_parts}
use Rattle.vt_redraw.proofs.for_laws.Redrawing.{IsState, state_parts}
use Rattle.vt_redraw.specs.Cells.{are_same, byte_change, cells_text, changed_rows, glyph_text, is_blank_end, row_text}
use Rattle.vt_redraw.specs.Drawable.{are_drawable, is_glyph, is_redrawable, is_row_drawable, is_state_drawable}
use Rattle.vt_redraw.specs.Parts.{AreParts, IsPart, RedrawsUseRows, has_numbers, is_among, has_code, have_code, is_sgr_number, sgr_numbers}
use Rattle.vt_redraw.specs.Parts.AreParts.{done, more}
use Rattle.vt_redraw.specs.Parts.IsPart.{character, coding, colour, control, control_sequence, escape, palette, private_mode, table}
use Rattle.vt_redraw.specs.Redraw.{IsStored, changes_of, redraw_of}
use Rattle.vt_redraw.specs.Sequences.{byte_text, coding_text, colour_text, erase_text, g0_text, g1_text, keypad_text, mode_text, private_mode_text, save_text, sequence, shift_text, start_palette_text, stop_text, table_letter}
use Rattle.vt_redraw.specs.State.{attributes_text, clearing_text, colours_from, colours_text, cursor_text, intensity_number, is_same_colour, mapping_text, modes_text, palette_text, pen_text, region_text, row_number, saved_text, setting_text, state_text, stops_from, stops_text, tables_text}
use Rattle.vt_canvas.specs.Screen.{Screen, start_blank}
use Rattle.vt_canvas.specs.declared.saved.Saved.{Saved}
use Rattle.vt_canvas.specs.declared.screen_state.ScreenState.{ScreenState}
use Rattle.vt_sgr.specs.PenState.{PenState}
use Rattle.vt_sgr.specs.Sgr.{is_of}

module _ (rows : List (List Cell)) where
  abbrev Made : List ℕ → Type 0
  Made text = AreParts rows text

  one : {part : List ℕ} → IsPart rows part → Made part
  one {part = part} p = subst Made (append-nil part) (more p done)

  both : {a b : List ℕ} → Made a → Made b → Made (a ++ b)
  both done second = second
  both {b = b} (more {part = part} {text = text} p rest) second =
      subst Made (sym (append_assoc part text b)) (more p (both rest second))

  either : (test : Bool) (a b : List ℕ) → Made a → Made b → Made (cond test a b)
  either true a b first second = first
  either false a b first second = second

  either-if : (test : Bool) (a b : List ℕ) → (test ≡ true → Made a) → (test ≡ false → Made b) → Made (cond test a b)
  either-if true a b first second = first refl
  either-if false a b first second = second refl

  -- control sequences whose numbers don't matter, and those of one number
  module _ (n : ℕ) (ns : List ℕ) where
    place-made : Made (sequence n ns 0x48)
    place-made = one (control_sequence n ns 0x48 refl refl)

    column-made : Made (sequence n ns 0x47)
    column-made = one (control_sequence n ns 0x47 refl refl)

  region-made : (top bottom : ℕ) → nat_lt top bottom ≡ true → Made (sequence (top + 1) ((bottom + 1) ∷ []) 0x72)
  region-made top bottom less =
      let order : top < bottom = ltb-true top bottom less in
      one (control_sequence (top + 1) ((bottom + 1) ∷ []) 0x72 refl
      (and_from (nat_le 1 (top + 1)) (nat_lt (top + 1) (bottom + 1)) (le-leb 1 (top + 1) (omega arith))
      (lt-ltb (top + 1) (bottom + 1) (omega (arith, order)))))

  mode-made : (n : ℕ) (on : Bool) → is_among (3 ∷ 4 ∷ 20 ∷ []) n ≡ true → Made (mode_text n on)
  unfolding mode_text
  mode-made n true is = one (control_sequence n [] 0x68 refl (and_from (is_among (3 ∷ 4 ∷ 20 ∷ []) n) true is refl))
  mode-made n false is = one (control_sequence n [] 0x6C refl (and_from (is_among (3 ∷ 4 ∷ 20 ∷ []) n) true is refl))

  private-made : (n : ℕ) (on : Bool) → is_among (1 ∷ 5 ∷ 6 ∷ 7 ∷ 8 ∷ 25 ∷ []) n ≡ true → Made (private_mode_text n on)
  unfolding private_mode_text
  private-made n true is = one (private_mode n 0x68 refl is)
  private-made n false is = one (private_mode n 0x6C refl is)

  coding-made : (on : Bool) → Made (coding_text on)
  unfolding coding_text
  coding-made true = one (coding 0x47 refl)
  coding-made false = one (coding 0x40 refl)

  shift-made : (shift : ℕ) → Made (shift_text shift)
  unfolding shift_text
  shift-made shift = by (shift == 0)
    where
      by : (test : Bool) → Made (cond test 0x0F 0x0E ∷ [])
      by true = one (control 0x0F refl)
      by false = one (control 0x0E refl)

  keypad-made : (on : Bool) → Made (keypad_text on)
  unfolding keypad_text
  keypad-made true = one (escape 0x3D refl)
  keypad-made false = one (escape 0x3E refl)

  letter-is : (a b c : Bool)
      → is_among (0x42 ∷ 0x30 ∷ 0x55 ∷ 0x4B ∷ []) (cond a 0x42 (cond b 0x30 (cond c 0x55 0x4B))) ≡ true
  letter-is true b c = refl
  letter-is false true c = refl
  letter-is false false true = refl
  letter-is false false false = refl

  g0-made : (named : ℕ) → Made (g0_text named)
  unfolding g0_text
  g0-made named = one (table 0x28 (table_letter named) refl (letter-is (named == 0) (named == 1) (named == 2)))

  g1-made : (named : ℕ) → Made (g1_text named)
  unfolding g1_text
  g1-made named = one (table 0x29 (table_letter named) refl (letter-is (named == 0) (named == 1) (named == 2)))

  stop-made : Made stop_text
  unfolding stop_text
  stop-made = one (escape 0x48 refl)

  save-made : Made save_text
  unfolding save_text
  save-made = one (escape 0x37 refl)

  erase-made : Made erase_text
  unfolding erase_text
  erase-made = one (control_sequence 0 [] 0x4B refl refl)

  start-palette-made : Made start_palette_text
  unfolding start_palette_text
  start-palette-made = one palette

  -- numbers of SGR
  foreground : (c : ℕ) → c < 8 → is_sgr_number (30 + c) ≡ true
  foreground c few =
      or_right (is_among sgr_numbers (30 + c)) (is_of 30 (30 + c) || (is_of 40 (30 + c) || (is_of 90 (30 + c) || is_of 100 (30 + c))))
      (or_left (is_of 30 (30 + c)) (is_of 40 (30 + c) || (is_of 90 (30 + c) || is_of 100 (30 + c)))
      (and_from (nat_le 30 (30 + c)) (nat_le (30 + c) 37) (le-leb 30 (30 + c) (omega arith)) (le-leb (30 + c) 37 (omega (arith, few)))))

  background : (c : ℕ) → c < 8 → is_sgr_number (40 + c) ≡ true
  background c few =
      or_right (is_among sgr_numbers (40 + c)) (is_of 30 (40 + c) || (is_of 40 (40 + c) || (is_of 90 (40 + c) || is_of 100 (40 + c))))
      (or_right (is_of 30 (40 + c)) (is_of 40 (40 + c) || (is_of 90 (40 + c) || is_of 100 (40 + c)))
      (or_left (is_of 40 (40 + c)) (is_of 90 (40 + c) || is_of 100 (40 + c))
      (and_from (nat_le 40 (40 + c)) (nat_le (40 + c) 47) (le-leb 40 (40 + c) (omega arith)) (le-leb (40 + c) 47 (omega (arith, few))))))

  -- a list of such numbers
  abbrev Numbers : List ℕ → Type 0
  Numbers ns = list_all is_sgr_number ns ≡ true

  number : (n : ℕ) (ns : List ℕ) → is_sgr_number n ≡ true → Numbers ns → Numbers (n ∷ ns)
  number n ns first others = and_from (is_sgr_number n) (list_all is_sgr_number ns) first others

  choice : (test : Bool) (n m : ℕ) (ns : List ℕ) → is_sgr_number n ≡ true → is_sgr_number m ≡ true
      → Numbers ns → Numbers (cond test n m ∷ ns)
  choice true n m ns first second others = number n ns first others
  choice false n m ns first second others = number m ns second others

  sgr-made : (n : ℕ) (ns : List ℕ) → is_sgr_number n ≡ true → Numbers ns → Made (sequence n ns 0x6D)
  sgr-made n ns first others = one (control_sequence n ns 0x6D refl (number n ns first others))

  intensity-is : (i : Intensity) → is_sgr_number (intensity_number i) ≡ true
  intensity-is Dim = refl
  intensity-is Normal = refl
  intensity-is Bold = refl

  attributes-made : (a : Rendition) → a.fg < 8 → a.bg < 8 → Made (attributes_text a)
  unfolding attributes_text
  attributes-made a fg bg =
      let reversed : List ℕ = cond a.reverse 7 27 ∷ [] in
      let blinking : List ℕ = cond a.blink 5 25 ∷ reversed in
      let lined : List ℕ = cond a.underline 4 24 ∷ blinking in
      let italic : List ℕ = cond a.italic 3 23 ∷ lined in
      let bright : List ℕ = intensity_number a.intensity ∷ italic in
      sgr-made (30 + a.fg) ((40 + a.bg) ∷ bright) (foreground a.fg fg)
      (number (40 + a.bg) bright (background a.bg bg)
      (number (intensity_number a.intensity) italic (intensity-is a.intensity)
      (choice a.italic 3 23 lined refl refl
      (choice a.underline 4 24 blinking refl refl
      (choice a.blink 5 25 reversed refl refl
      (choice a.reverse 7 27 [] refl refl refl))))))

  vga-few : (c : ℕ) → c < 8 → vga c < 8
  vga-few c few = ltb-true (vga c) 8 (agree_below_at (λ c. nat_lt (vga c) 8) (λ _. true) 8 c refl few)

  byte-made : (b : ℕ) → Made (byte_text b)
  unfolding byte_text
  byte-made b = by (b / 8 % 2 == 1) (b / 128 == 1)
    where
      colours : Numbers ((30 + vga (b % 8)) ∷ (40 + vga (b / 16 % 8)) ∷ [])
      colours =
          number (30 + vga (b % 8)) ((40 + vga (b / 16 % 8)) ∷ []) (foreground (vga (b % 8)) (vga-few (b % 8) (omega arith)))
          (number (40 + vga (b / 16 % 8)) [] (background (vga (b / 16 % 8)) (vga-few (b / 16 % 8) (omega arith))) refl)

      by : (bold blink : Bool)
          → Made (sequence 0 (cond bold (1 ∷ []) [] ++ (cond blink (5 ∷ []) [] ++ (30 + vga (b % 8)) ∷ (40 + vga (b / 16 % 8)) ∷ [])) 0x6D)
      by true true =
          sgr-made 0 (1 ∷ 5 ∷ (30 + vga (b % 8)) ∷ (40 + vga (b / 16 % 8)) ∷ []) refl
          (number 1 (5 ∷ (30 + vga (b % 8)) ∷ (40 + vga (b / 16 % 8)) ∷ []) refl
          (number 5 ((30 + vga (b % 8)) ∷ (40 + vga (b / 16 % 8)) ∷ []) refl colours))
      by true false =
          sgr-made 0 (1 ∷ (30 + vga (b % 8)) ∷ (40 + vga (b / 16 % 8)) ∷ []) refl
          (number 1 ((30 + vga (b % 8)) ∷ (40 + vga (b / 16 % 8)) ∷ []) refl colours)
      by false true =
          sgr-made 0 (5 ∷ (30 + vga (b % 8)) ∷ (40 + vga (b / 16 % 8)) ∷ []) refl
          (number 5 ((30 + vga (b % 8)) ∷ (40 + vga (b / 16 % 8)) ∷ []) refl colours)
      by false false = sgr-made 0 ((30 + vga (b % 8)) ∷ (40 + vga (b / 16 % 8)) ∷ []) refl colours

  change-made : (now b : ℕ) → Made (byte_change now b)
  change-made now b = either (now == b) [] (byte_text b) done (byte-made b)

  glyph-made : (code : ℕ) → have_code rows code ≡ true → is_glyph code ≡ true → Made (glyph_text code)
  unfolding glyph_text
  glyph-made code there is =
      subst Made (sym (cond-true (is_character code) (encode_utf8 code) [] (glyph_parts code is).character))
      (one (character code there is))

  -- the codes of these cells, and of these rows, are in the rows
  abbrev AreIn : List Cell → Type 0
  AreIn cells = (code : ℕ) → has_code cells code ≡ true → have_code rows code ≡ true

  abbrev RowsIn : List (List Cell) → Type 0
  RowsIn news = (code : ℕ) → have_code news code ≡ true → have_code rows code ≡ true

  first : (c : Cell) (cells : List Cell) → AreIn (c ∷ cells) → have_code rows c.code ≡ true
  first c cells there = there c.code (or_left (c.code == c.code) (has_code cells c.code) (eq-eqb c.code c.code refl))

  behind : (c : Cell) (cells : List Cell) → AreIn (c ∷ cells) → AreIn cells
  behind c cells there code h = there code (or_right (code == c.code) (has_code cells code) h)

  first-row : (row : List Cell) (news : List (List Cell)) → RowsIn (row ∷ news) → AreIn row
  first-row row news there code h = there code (or_left (has_code row code) (have_code news code) h)

  other-rows : (row : List Cell) (news : List (List Cell)) → RowsIn (row ∷ news) → RowsIn news
  other-rows row news there code h = there code (or_right (has_code row code) (have_code news code) h)

  -- cells and rows
  cells-made : (erases : Bool) (now : ℕ) (wide : Bool) (attr : ℕ) (cells : List Cell) → AreIn cells → are_drawable wide attr cells ≡ true
      → Made (cells_text erases now cells)
  cells-made erases now wide attr [] there is = done
  cells-made erases now true attr (c ∷ cells) there is =
      let parts = and_parts (is_half c && c.attr == attr) (are_drawable false 0 cells) is in
      let half = (and_parts (is_half c) (c.attr == attr) parts.0).0 in
      either (erases && is_blank_end (c ∷ cells)) (byte_change now c.attr ++ erase_text)
      (cond (is_half c) (cells_text erases now cells) (byte_change now c.attr ++ (glyph_text c.code ++ cells_text erases c.attr cells)))
      (both (change-made now c.attr) erase-made)
      (either-if (is_half c) (cells_text erases now cells) (byte_change now c.attr ++ (glyph_text c.code ++ cells_text erases c.attr cells))
      (λ _. cells-made erases now false 0 cells (behind c cells there) parts.1)
      (λ no. absurd (both_ways (is_half c) no half)))
  cells-made erases now false attr (c ∷ cells) there is =
      let parts = and_parts (is_glyph c.code && nat_lt c.attr 256) (are_drawable (columns c.code == 2) c.attr cells) is in
      let glyph = (and_parts (is_glyph c.code) (nat_lt c.attr 256) parts.0).0 in
      either (erases && is_blank_end (c ∷ cells)) (byte_change now c.attr ++ erase_text)
      (cond (is_half c) (cells_text erases now cells) (byte_change now c.attr ++ (glyph_text c.code ++ cells_text erases c.attr cells)))
      (both (change-made now c.attr) erase-made)
      (either (is_half c) (cells_text erases now cells) (byte_change now c.attr ++ (glyph_text c.code ++ cells_text erases c.attr cells))
      (cells-made erases now (columns c.code == 2) c.attr cells (behind c cells there) parts.1)
      (both (change-made now c.attr)
      (both (glyph-made c.code (first c cells there) glyph) (cells-made erases c.attr (columns c.code == 2) c.attr cells (behind c cells there) parts.1))))

  row-made : (y : ℕ) (row : List Cell) → AreIn row → is_row_drawable row ≡ true → Made (row_text y row)
  row-made y row there is = both (place-made (y + 1) ((0 + 1) ∷ [])) (cells-made true 256 false 0 row there is)

  rows-made : (y : ℕ) (olds news : List (List Cell)) → RowsIn news → list_all is_row_drawable news ≡ true → Made (changed_rows y olds news)
  rows-made y olds [] there is = done
  rows-made y [] (row ∷ news) there is = done
  rows-made y (old ∷ olds) (row ∷ news) there is =
      let parts = and_parts (is_row_drawable row) (list_all is_row_drawable news) is in
      both (either (are_same old row) [] (row_text y row) done (row-made y row (first-row row news there) parts.0))
      (rows-made (y + 1) olds news (other-rows row news there) parts.1)

  -- the state
  setting-made : Made setting_text
  setting-made =
      both (coding-made true)
      (both (shift-made 0)
      (both (mode-made 4 false refl)
      (both (private-made 6 false refl)
      (private-made 7 true refl))))

  clearing-made : Made clearing_text
  clearing-made = both (sgr-made 37 (40 ∷ []) refl refl) (one (control_sequence 2 [] 0x4A refl refl))

  stops-from-made : (x : ℕ) (stops : List Bool) → Made (stops_from x stops)
  stops-from-made x [] = done
  stops-from-made x (stop ∷ stops) =
      both (either stop _ [] (both (column-made (x + 1) []) stop-made) done) (stops-from-made (x + 1) stops)

  stops-made : (cols : ℕ) (stops : List Bool) → Made (stops_text cols stops)
  stops-made cols stops =
      both (one (control_sequence 3 [] 0x67 refl refl)) (stops-from-made 0 (take cols stops))

  tables-made : (g0 g1 shift : ℕ) → Made (tables_text g0 g1 shift)
  unfolding tables_text
  tables-made g0 g1 shift = both (g0-made g0) (both (g1-made g1) (both (shift-made shift) (mode-made 3 false refl)))

  saved-made : (v : Saved) → v.attr.fg < 8 → v.attr.bg < 8 → Made (saved_text v)
  saved-made v fg bg =
      both (attributes-made v.attr fg bg)
      (both (tables-made v.g0 v.g1 v.shift) (both (place-made (v.y + 1) ((v.x + 1) ∷ [])) save-made))

  region-text-made : (s : ScreenState) → Made (region_text s)
  region-text-made s =
      both (either-if (nat_lt s.top s.bottom) _ [] (region-made s.top s.bottom) (λ one_row. done))
      (private-made 6 s.origin refl)

  row-at-made : (news : List (List Cell)) (y : ℕ) → RowsIn news → list_all is_row_drawable news ≡ true
      → Made (cells_text false 256 (slice_index_or news y []))
  row-at-made [] y there is = done
  row-at-made (row ∷ news) zero there is =
      cells-made false 256 false 0 row (first-row row news there) (and_parts (is_row_drawable row) (list_all is_row_drawable news) is).0
  row-at-made (row ∷ news) (suc y) there is =
      row-at-made news y (other-rows row news there) (and_parts (is_row_drawable row) (list_all is_row_drawable news) is).1

  cursor-made : (s : Screen) → RowsIn s.grid.cells → list_all is_row_drawable s.grid.cells ≡ true → Made (cursor_text s)
  cursor-made s there is =
      either s.state.wrap _ _
      (both (place-made (row_number s.state + 1) ((0 + 1) ∷ [])) (row-at-made s.grid.cells s.state.y there is))
      (place-made (row_number s.state + 1) ((s.state.x + 1) ∷ []))

  setting-number : (n value : ℕ) → is_among (1 ∷ 2 ∷ []) n ≡ true → value < 16 → has_numbers 0x5D n (value ∷ []) ≡ true
  setting-number n value is few = and_from (is_among (1 ∷ 2 ∷ []) n) (nat_lt value 16) is (lt-ltb value 16 few)

  colours-made : (p : PenState) → p.look.ul < 16 → p.look.dim < 16 → p.def_fg < 8 → p.def_bg < 8 → Made (colours_text p)
  colours-made p ul dim fg bg =
      both (one (control_sequence 1 (p.look.ul ∷ []) 0x5D refl (setting-number 1 p.look.ul refl ul)))
      (both (one (control_sequence 2 (p.look.dim ∷ []) 0x5D refl (setting-number 2 p.look.dim refl dim)))
      (both (sgr-made (30 + p.def_fg) ((40 + p.def_bg) ∷ []) (foreground p.def_fg fg) (number (40 + p.def_bg) [] (background p.def_bg bg) refl))
      (one (control_sequence 8 [] 0x5D refl refl))))

  mapping-made : (alt toggle : Bool) → Made (mapping_text alt toggle)
  unfolding mapping_text
  mapping-made true true = sgr-made 12 [] refl refl
  mapping-made true false = sgr-made 11 [] refl refl
  mapping-made false toggle = done

  colours-from-made : (n : ℕ) (starts colours : List Rgb) → n + length starts ≤ 16 → Made (colours_from n starts colours)
  colours-from-made n starts [] few = done
  colours-from-made n [] (rgb ∷ colours) few = done
  colours-from-made n (start ∷ starts) (rgb ∷ colours) few =
      both (either (is_same_colour start rgb) [] (colour_text n rgb) done (one (colour n rgb (omega (arith, few)))))
      (colours-from-made (n + 1) starts colours (omega (arith, few)))

  palette-made : (colours : List Rgb) → Made (palette_text colours)
  palette-made colours = both start-palette-made (colours-from-made 0 start_palette colours (omega arith))

  modes-made : (s : ScreenState) → Made (modes_text s)
  modes-made s =
      both (mode-made 4 s.insert refl)
      (both (mode-made 20 s.newline refl)
      (both (private-made 1 s.cursor refl)
      (both (private-made 5 s.reverse refl)
      (both (private-made 7 s.autowrap refl)
      (both (private-made 8 s.repeat refl)
      (both (private-made 25 s.visible refl)
      (both (keypad-made s.keypad)
      (coding-made s.utf8))))))))

  state-made : (s : Screen) → IsStored s → RowsIn s.grid.cells → list_all is_row_drawable s.grid.cells ≡ true → IsState s.grid.rows s.grid.cols s.state → Made (state_text s)
  state-made s stored there drawable is =
      both (stops-made s.grid.cols s.state.stops)
      (both (saved-made s.state.saved is.saved_fg is.saved_bg)
      (both (region-text-made s.state)
      (both (cursor-made s there drawable)
      (both pen-made
      (both (palette-made s.state.palette)
      (modes-made s.state))))))
    where
      pen-made : Made (pen_text s.state)
      pen-made =
          both (colours-made s.state.pen stored.look.0 stored.look.1 is.def_fg is.def_bg)
          (both (attributes-made s.state.pen.attr is.fg is.bg)
          (both (tables-made s.state.g0 s.state.g1 s.state.shift)
          (both (mapping-made s.state.pen.alt s.state.pen.toggle)
          (mode-made 3 s.state.pen.display refl))))

pub redraws_use_rows : RedrawsUseRows
unfolding is_redrawable redraw_of changes_of
redraws_use_rows s stored is =
    let parts = and_parts (list_all is_row_drawable s.grid.cells) (is_state_drawable s.grid.rows s.grid.cols s.state) is in
    let rows : List (List Cell) = s.grid.cells in
    let state = state-made rows s stored (λ code h. h) parts.0 (state_parts s.grid.rows s.grid.cols s.state parts.1) in (
      both rows (setting-made rows)
          (both rows (clearing-made rows)
          (both rows (rows-made rows 0 (filled_grid s.grid.rows s.grid.cols start_blank).cells s.grid.cells (λ code h. h) parts.0) state)),
      λ old. both rows (setting-made rows) (both rows (rows-made rows 0 old.cells s.grid.cells (λ code h. h) parts.0) state),
    )
