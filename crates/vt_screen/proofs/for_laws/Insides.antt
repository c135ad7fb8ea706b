-- Each case of the effect table leaves the cursor in the screen, and in origin mode in the region.
use Rattle.std.proofs.Common.{◌≡◌, ℕ, ◌+◌, ◌-◌, ◌==◌, ◌&&◌, ◌||◌, ◌<◌, ◌≤◌, Bool, true, false, List, [], ◌∷◌, length, max, min, nat_lt, nat_le, refl, cond, arith, ltb-true}
use Rattle.std.specs.Prelude.{IsTrue}
use Rattle.std.proofs.lemmas.Bool.{and_parts, eqb-false, false≢true, leb-true}
use Rattle.vt_cells.specs.Colours.{Rgb}
use Rattle.vt_canvas.specs.Cursor.{at_column, at_row, first_row, linefeed, cursor_to, newline, cursor_to_in_region, region_down, region_up, reverse_linefeed, tab}
use Rattle.vt_canvas.specs.Erasing.{cells_inserted, delete_characters, delete_lines, erase_characters, erase_display, erase_line, in_region, insert_characters, insert_lines, rows_erased}
use Rattle.vt_canvas.specs.Printing.{codes_drawn, lacks_room, with_gap, print, with_cells_at_cursor, with_character, after_wrap}
use Rattle.vt_canvas.specs.Saying.{Effect}
use Rattle.vt_canvas.specs.Screen.{Screen, start_saved, with_state}
use Rattle.vt_screen.specs.SavedCursor.{saved_of}
use Rattle.vt_canvas.specs.Settings.{alignment_pattern, clear_stops, each, after_shift, after_sgr, reset, restore, save, set_stop, with_coding, with_colour, with_g0, with_g1, with_keypad, with_mode, with_private_mode, with_region, with_start_palette}
use Rattle.vt_canvas.specs.declared.saved.Saved.{Saved}

-- the region's rows are rows of the screen, which has a column
abbrev pub HasRegion : Screen → Type 0
HasRegion s = (s.state.top ≤ s.state.bottom) × (s.state.bottom < s.grid.rows) × (0 < s.grid.cols)

-- and the cursor is where it may be; what is saved, and the size, keep to a rule that only saving,
-- the reset and another size can break
unfoldable pub IsInside : (Saved → ℕ → ℕ → Type 0) → Screen → Type 0
IsInside rule s =
    (s.state.y < s.grid.rows) × (s.state.x < s.grid.cols) × (s.state.top ≤ s.state.bottom) × (s.state.bottom < s.grid.rows)
    × (IsTrue s.state.origin → (s.state.top ≤ s.state.y) × (s.state.y ≤ s.state.bottom))
    × rule s.state.saved s.grid.rows s.grid.cols

-- a move goes to the rows that it reaches
row_in : (o : Bool) (top bottom rows y : ℕ) → top ≤ bottom → bottom < rows → max (cond o top 0) (min y (cond o bottom (rows - 1))) < rows
row_in true top bottom rows y h k = omega arith
row_in false top bottom rows y h k = omega arith

row_reached : (o : Bool) (top bottom rows y : ℕ) → top ≤ bottom → IsTrue o → (top ≤ max (cond o top 0) (min y (cond o bottom (rows - 1)))) × (max (cond o top 0) (min y (cond o bottom (rows - 1))) ≤ bottom)
row_reached true top bottom rows y h o = (omega arith, omega arith)
row_reached false top bottom rows y h o = absurd (false≢true o)

some_columns : (w : ℕ) → (w == 0) ≡ false → 1 ≤ w
some_columns w e = let other = eqb-false w 0 e in omega (arith, other)

module _ (rule : Saved → ℕ → ℕ → Type 0) where
  region-of : (s : Screen) → IsInside rule s → HasRegion s
  unfolding IsInside
  region-of s h = let x = h.1 in (h.2, h.3, omega (arith, x))

  pub either : (test : Bool) (s t : Screen) → IsInside rule s → IsInside rule t → IsInside rule (cond test s t)
  either true s t first second = first
  either false s t first second = second

  either-if : (test : Bool) (s t : Screen) → (test ≡ true → IsInside rule s) → (test ≡ false → IsInside rule t) → IsInside rule (cond test s t)
  either-if true s t first second = first refl
  either-if false s t first second = second refl

  pub either_done_if : (test : Bool) (s t : Effect) → (test ≡ true → IsInside rule s.screen) → (test ≡ false → IsInside rule t.screen) → IsInside rule (cond test s t).screen
  either_done_if true s t first second = first refl
  either_done_if false s t first second = second refl

  pub either_done : (test : Bool) (s t : Effect) → IsInside rule s.screen → IsInside rule t.screen → IsInside rule (cond test s t).screen
  either_done true s t first second = first
  either_done false s t first second = second

  cursor-moved-in : (y x : ℕ) (s : Screen) → HasRegion s → rule s.state.saved s.grid.rows s.grid.cols → IsInside rule (cursor_to y x s)
  unfolding cursor_to IsInside
  cursor-moved-in y x s h k =
      let c = h.2 in (
        row_in s.state.origin s.state.top s.state.bottom s.grid.rows y h.0 h.1,
        omega (arith, c),
        h.0,
        h.1,
        row_reached s.state.origin s.state.top s.state.bottom s.grid.rows y h.0,
        k,
      )

  pub cursor_cursor_to : (y x : ℕ) (s : Screen) → IsInside rule s → IsInside rule (cursor_to y x s)
  unfolding IsInside
  cursor_cursor_to y x s h = cursor-moved-in y x s (region-of s h) h.5

  cursor-placed-in : (y x : ℕ) (s : Screen) → HasRegion s → rule s.state.saved s.grid.rows s.grid.cols → IsInside rule (cursor_to_in_region y x s)
  unfolding cursor_to_in_region IsInside
  cursor-placed-in y x s h k = cursor-moved-in (first_row s + y) x s h k

  pub cursor_cursor_to_in_region : (y x : ℕ) (s : Screen) → IsInside rule s → IsInside rule (cursor_to_in_region y x s)
  unfolding IsInside
  cursor_cursor_to_in_region y x s h = cursor-placed-in y x s (region-of s h) h.5

  -- what moves the cursor and scrolls
  pub line_feed : (s : Screen) → IsInside rule s → IsInside rule (linefeed s)
  unfolding IsInside
  line_feed s h =
      either-if (s.state.y == s.state.bottom) (region_up s) (at_row (min (s.state.y + 1) (s.grid.rows - 1)) s) (λ _. h)
      (λ e.
      let other = eqb-false s.state.y s.state.bottom e in
      let y = h.0 in
      let b = h.3 in (
        omega (arith, y),
        h.1,
        h.2,
        h.3,
        λ o.
            let low = (h.4 o).0 in
            let high = (h.4 o).1 in
            (omega (arith, low, high, b), omega (arith, low, high, other, b)),
        h.5,
      ))

  pub reverse_line_feed : (s : Screen) → IsInside rule s → IsInside rule (reverse_linefeed s)
  unfolding IsInside
  reverse_line_feed s h =
      either-if (s.state.y == s.state.top) (region_down s) (at_row (s.state.y - 1) s) (λ _. h)
      (λ e.
      let other = eqb-false s.state.y s.state.top e in
      let y = h.0 in (
        omega (arith, y),
        h.1,
        h.2,
        h.3,
        λ o.
            let low = (h.4 o).0 in
            let high = (h.4 o).1 in
            (omega (arith, low, other), omega (arith, high)),
        h.5,
      ))

  pub to_column : (x : ℕ) (s : Screen) → x < s.grid.cols → IsInside rule s → IsInside rule (at_column x s)
  unfolding IsInside
  to_column x s there h = (h.0, there, h.2, h.3, h.4, h.5)

  pub first_column : (s : Screen) → IsInside rule s → IsInside rule (at_column 0 s)
  unfolding IsInside
  first_column s h = let x = h.1 in to_column 0 s (omega (arith, x)) h

  pub new_line : (s : Screen) → IsInside rule s → IsInside rule (newline s)
  unfolding IsInside
  new_line s h =
      line_feed (cond s.state.newline (at_column 0 s) s) (either s.state.newline (at_column 0 s) s (first_column s h) h)

  -- what erases, inserts and deletes
  pub display_erased : (which : ℕ) (s : Screen) → IsInside rule s → IsInside rule (erase_display which s)
  unfolding erase_display rows_erased IsInside
  display_erased which s h = either (which == 0) _ _ h (either (which == 1) _ _ h (either (which == 2 || which == 3) _ s h h))

  pub row_erased : (which : ℕ) (s : Screen) → IsInside rule s → IsInside rule (erase_line which s)
  unfolding erase_line IsInside
  row_erased which s h = either (which == 0) _ _ h (either (which == 1) _ _ h (either (which == 2) _ s h h))

  pub characters_erased : (n : ℕ) (s : Screen) → IsInside rule s → IsInside rule (erase_characters n s)
  unfolding erase_characters IsInside
  characters_erased n s h = h

  pub characters_inserted : (n : ℕ) (s : Screen) → IsInside rule s → IsInside rule (insert_characters n s)
  unfolding insert_characters IsInside
  characters_inserted n s h = h

  pub characters_deleted : (n : ℕ) (s : Screen) → IsInside rule s → IsInside rule (delete_characters n s)
  unfolding delete_characters IsInside
  characters_deleted n s h = h

  pub lines_inserted : (n : ℕ) (s : Screen) → IsInside rule s → IsInside rule (insert_lines n s)
  unfolding insert_lines IsInside
  lines_inserted n s h = either (in_region s) _ s h h

  pub lines_deleted : (n : ℕ) (s : Screen) → IsInside rule s → IsInside rule (delete_lines n s)
  unfolding delete_lines IsInside
  lines_deleted n s h = either (in_region s) _ s h h

  -- what makes the screen anew
  pub screen_reset : (s : Screen) → IsInside rule s → rule start_saved s.grid.rows s.grid.cols → IsInside rule (reset s)
  unfolding reset IsInside
  screen_reset s h k =
      let y = h.0 in
      let x = h.1 in
      (omega (arith, y), omega (arith, x), omega arith, omega (arith, y), λ o. absurd (false≢true o), k)

  pub screen_alignment_pattern : (s : Screen) → IsInside rule s → IsInside rule (alignment_pattern s)
  unfolding alignment_pattern IsInside
  screen_alignment_pattern s h = h

  -- printing
  put : (codes : List ℕ) (s : Screen) → IsInside rule s → IsInside rule (with_cells_at_cursor codes s)
  unfolding IsInside
  put codes s h = (h.0, by (nat_lt (s.state.x + length codes) s.grid.cols) refl, h.2, h.3, h.4, h.5)
    where
      by : (test : Bool) → nat_lt (s.state.x + length codes) s.grid.cols ≡ test → cond test (s.state.x + length codes) (s.grid.cols - 1) < s.grid.cols
      by true e = ltb-true (s.state.x + length codes) s.grid.cols e
      by false e = let x = h.1 in omega (arith, x)

  wrapped-in : (w : ℕ) (s : Screen) → 1 ≤ w → IsInside rule s → IsInside rule (after_wrap w s)
  unfolding IsInside
  wrapped-in w s some h =
      let x = h.1 in
      either (s.state.autowrap && (s.state.wrap || lacks_room w s)) (linefeed (at_column 0 s)) _ (line_feed (at_column 0 s) (first_column s h))
      (either (lacks_room w s) (at_column (s.grid.cols - w) s) s (to_column (s.grid.cols - w) s (omega (arith, some, x)) h) h)

  set-down : (w code : ℕ) (s : Screen) → 1 ≤ w → IsInside rule s → IsInside rule (with_character w code s)
  unfolding IsInside
  set-down w code s some h =
      let there = after_wrap w s in
      let there_is : IsInside rule there = wrapped-in w s some h in
      put (codes_drawn w code) (with_gap w there) (either there.state.insert (cells_inserted w there) there there_is there_is)

  pub printed_once : (w code : ℕ) (s : Screen) → IsInside rule s → IsInside rule (print w code s)
  unfolding print IsInside
  printed_once w code s h =
      either-if (w == 0) s _ (λ _. h)
      (λ e. either (w == 2 && s.grid.cols == 1) (with_character 1 0xFFFD s) (with_character w code s) (set-down 1 0xFFFD s (omega arith) h) (set-down w code s (some_columns w e) h))

  -- what changes the state alone
  pub tabbed : (s : Screen) → IsInside rule s → IsInside rule (tab s)
  unfolding tab IsInside
  tabbed s h = let x = h.1 in (h.0, omega (arith, x), h.2, h.3, h.4, h.5)

  pub invoked : (shift : ℕ) (display : Bool) (s : Screen) → IsInside rule s → IsInside rule (after_shift shift display s)
  unfolding after_shift IsInside
  invoked shift display s h = h

  pub coded : (last : ℕ) (s : Screen) → IsInside rule s → IsInside rule (with_coding last s)
  unfolding with_coding IsInside
  coded last s h = either (last == 0x40) _ _ h (either (last == 0x47) _ _ h (either (last == 0x38) _ s h h))

  pub first_set : (last : ℕ) (s : Screen) → IsInside rule s → IsInside rule (with_g0 last s)
  unfolding with_g0 IsInside
  first_set last s h = h

  pub second_set : (last : ℕ) (s : Screen) → IsInside rule s → IsInside rule (with_g1 last s)
  unfolding with_g1 IsInside
  second_set last s h = h

  pub stop_set : (s : Screen) → IsInside rule s → IsInside rule (set_stop s)
  unfolding set_stop IsInside
  stop_set s h = h

  pub stops_cleared : (which : ℕ) (s : Screen) → IsInside rule s → IsInside rule (clear_stops which s)
  unfolding clear_stops IsInside
  stops_cleared which s h = either (which == 0) _ _ h (either (which == 3) _ s h h)

  pub keypad_set : (on : Bool) (s : Screen) → IsInside rule s → IsInside rule (with_keypad on s)
  unfolding with_keypad IsInside
  keypad_set on s h = h

  pub each_keeps : (f : ℕ → Screen → Screen) → ((n : ℕ) (s : Screen) → IsInside rule s → IsInside rule (f n s))
      → (numbers : List ℕ) (s : Screen) → IsInside rule s → IsInside rule (each f numbers s)
  each_keeps f keeps [] s h = h
  each_keeps f keeps (n ∷ numbers) s h = each_keeps f keeps numbers (f n s) (keeps n s h)

  pub mode_set : (on : Bool) (n : ℕ) (s : Screen) → IsInside rule s → IsInside rule (with_mode on n s)
  unfolding with_mode IsInside
  mode_set on n s h = either (n == 3) _ _ h (either (n == 4) _ _ h (either (n == 20) _ s h h))

  -- a mode on or off
  key-mode : (on : Bool) (s : Screen) → IsInside rule s → IsInside rule (with_state s (record s.state { cursor = on }))
  unfolding IsInside
  key-mode on s h = h

  reversed : (on : Bool) (s : Screen) → IsInside rule s → IsInside rule (with_state s (record s.state { reverse = on }))
  unfolding IsInside
  reversed on s h = h

  origin-set : (on : Bool) (s : Screen) → IsInside rule s → IsInside rule (cursor_to_in_region 0 0 (with_state s (record s.state { origin = on })))
  unfolding IsInside
  origin-set on s h = cursor-placed-in 0 0 (with_state s (record s.state { origin = on })) (region-of s h) h.5

  wraps : (on : Bool) (s : Screen) → IsInside rule s → IsInside rule (with_state s (record s.state { autowrap = on }))
  unfolding IsInside
  wraps on s h = h

  repeats : (on : Bool) (s : Screen) → IsInside rule s → IsInside rule (with_state s (record s.state { repeat = on }))
  unfolding IsInside
  repeats on s h = h

  shows : (on : Bool) (s : Screen) → IsInside rule s → IsInside rule (with_state s (record s.state { visible = on }))
  unfolding IsInside
  shows on s h = h

  pub private_mode_set : (on : Bool) (n : ℕ) (s : Screen) → IsInside rule s → IsInside rule (with_private_mode on n s)
  unfolding with_private_mode
  private_mode_set on n s h =
      either (n == 1) _ _ (key-mode on s h)
      (either (n == 5) _ _ (reversed on s h)
      (either (n == 6) _ _ (origin-set on s h)
      (either (n == 7) _ _ (wraps on s h)
      (either (n == 8) _ _ (repeats on s h)
      (either (n == 25) _ s (shows on s h) h)))))

  pub region_set : (t b : ℕ) (s : Screen) → IsInside rule s → IsInside rule (with_region t b s)
  unfolding with_region IsInside
  region_set t b s h =
      let last = cond (b == 0) s.grid.rows b in
      either-if (nat_lt t last && nat_le last s.grid.rows) _ s
      (λ e.
      let parts = and_parts (nat_lt t last) (nat_le last s.grid.rows) e in
      let low = ltb-true t last parts.0 in
      let high = leb-true last s.grid.rows parts.1 in
      let x = h.1 in
      cursor-placed-in 0 0 _ (omega (arith, low), omega (arith, low, high), omega (arith, x)) h.5)
      (λ _. h)

  pub pen_set : (params : List ℕ) (s : Screen) → IsInside rule s → IsInside rule (after_sgr params s)
  unfolding after_sgr IsInside
  pen_set params s h = h

  pub cursor_saved : (s : Screen) → IsInside rule s → rule (saved_of s) s.grid.rows s.grid.cols → IsInside rule (save s)
  unfolding save IsInside
  cursor_saved s h k = (h.0, h.1, h.2, h.3, h.4, k)

  pub restored : (s : Screen) → IsInside rule s → IsInside rule (restore s)
  unfolding restore IsInside
  restored s h = cursor-moved-in s.state.saved.y s.state.saved.x _ (region-of s h) h.5

  pub coloured : (n : ℕ) (rgb : Rgb) (s : Screen) → IsInside rule s → IsInside rule (with_colour n rgb s)
  unfolding with_colour IsInside
  coloured n rgb s h = either (nat_lt n 16) _ s h h

  pub colours_reset : (s : Screen) → IsInside rule s → IsInside rule (with_start_palette s)
  unfolding with_start_palette IsInside
  colours_reset s h = h
