-- Each case of the effect table keeps the property of rows that their edits keep.
use Rattle.std.proofs.Common.{◌≡◌, ℕ, ◌+◌, ◌-◌, ◌==◌, ◌&&◌, ◌||◌, Bool, true, false, List, [], ◌∷◌, ◌++◌, take, drop, replicate, min, nat_lt, nat_le, refl, cond}
use Rattle.std.proofs.lemmas.List.Elements.{All-append, All-drop, All-take}
use Rattle.vt_cells.specs.declared.cell.Cell.{Cell}
use Rattle.vt_grid.specs.Grid.{cells_of_codes}
use Rattle.vt_screen.proofs.for_laws.Edits.{Each, Edits}
use Rattle.vt_canvas.specs.Cursor.{at_column, at_row, linefeed, cursor_to, newline, cursor_to_in_region, region_down, region_up, reverse_linefeed, tab}
use Rattle.vt_cells.specs.Colours.{Rgb}
use Rattle.vt_canvas.specs.Effect.{control, control_sequence, count_of, escape, number_at, plain_escape, private_sequence}
use Rattle.vt_canvas.specs.Erasing.{above_erased, all_erased, below_erased, cells_deleted, cells_inserted, delete_characters, delete_lines, erase_characters, erase_display, erase_line, in_region, insert_characters, insert_lines, line_end_erased, line_erased, line_start_erased, rows_erased, without_pending_wrap}
use Rattle.vt_canvas.specs.Printing.{codes_drawn, lacks_room, with_gap, print, with_cells_at_cursor, with_character, after_wrap}
use Rattle.vt_canvas.specs.Saying.{Effect, console_setting, device_report, lights, without_out, status_report}
use Rattle.vt_canvas.specs.Screen.{Screen, blank_of, pen_byte}
use Rattle.vt_canvas.specs.Settings.{alignment_pattern, clear_stops, each, after_shift, after_sgr, reset, restore, save, set_stop, with_coding, with_colour, with_g0, with_g1, with_keypad, with_mode, with_private_mode, with_region, with_start_palette}

-- each of these codes has the property
abbrev pub HaveCodes : (ℕ → Type 0) → List ℕ → Type 0
HaveCodes Code [] = Unit {0}
HaveCodes Code (code ∷ codes) = Code code × HaveCodes Code codes

module _ (Row : List Cell → Type 0) (Code : ℕ → Type 0) where
  -- each row has its property, and each code of the user's table has its own
  abbrev pub HasHalves : Screen → Type 0
  HasHalves s = Each Row s.grid × HaveCodes Code s.state.map

  -- the cells of such a character have it
  abbrev pub Draws : ℕ → ℕ → Type 0
  Draws w code = (attr : ℕ) → Row (cells_of_codes (codes_drawn w code) attr)

  either : (test : Bool) (s t : Screen) → HasHalves s → HasHalves t → HasHalves (cond test s t)
  either true s t first second = first
  either false s t first second = second

  either-done : (test : Bool) (s t : Effect) → HasHalves s.screen → HasHalves t.screen → HasHalves (cond test s t).screen
  either-done true s t first second = first
  either-done false s t first second = second

  module _ (Blank : Cell → Type 0) (law : Edits Blank Row) (blank : (c : Cell) → nat_lt c.code 0x7F ≡ true → Blank c) where
    -- what moves the cursor and scrolls
    region-up : (s : Screen) → HasHalves s → HasHalves (region_up s)
    region-up s h = (law.scrolling_up s.grid s.state.top s.state.bottom 1 (blank_of s) h.0 (blank (blank_of s) refl), h.1)

    region-down : (s : Screen) → HasHalves s → HasHalves (region_down s)
    region-down s h = (law.scrolling_down s.grid s.state.top s.state.bottom 1 (blank_of s) h.0 (blank (blank_of s) refl), h.1)

    line-feed : (s : Screen) → HasHalves s → HasHalves (linefeed s)
    line-feed s h =
        either (s.state.y == s.state.bottom) (region_up s) (at_row (min (s.state.y + 1) (s.grid.rows - 1)) s) (region-up s h) h

    reverse-line-feed : (s : Screen) → HasHalves s → HasHalves (reverse_linefeed s)
    reverse-line-feed s h =
        either (s.state.y == s.state.top) (region_down s) (at_row (s.state.y - 1) s) (region-down s h) h

    new-line : (s : Screen) → HasHalves s → HasHalves (newline s)
    new-line s h =
        line-feed (cond s.state.newline (at_column 0 s) s) (either s.state.newline (at_column 0 s) s h h)

    -- what erases, inserts and deletes
    line-erased : (x0 x1 : ℕ) (s : Screen) → HasHalves s → HasHalves (line_erased x0 x1 s)
    line-erased x0 x1 s h = (law.erasing s.grid s.state.y x0 x1 (blank_of s) h.0 (blank (blank_of s) refl), h.1)

    cells-inserted : (n : ℕ) (s : Screen) → HasHalves s → HasHalves (cells_inserted n s)
    cells-inserted n s h = (law.inserting s.grid s.state.y s.state.x n (blank_of s) h.0 (blank (blank_of s) refl), h.1)

    cells-deleted : (n : ℕ) (s : Screen) → HasHalves s → HasHalves (cells_deleted n s)
    cells-deleted n s h = (law.deleting s.grid s.state.y s.state.x n (blank_of s) h.0 (blank (blank_of s) refl), h.1)

    rows-erased : (from count : ℕ) (s : Screen) → HasHalves s → HasHalves (rows_erased from count s)
    unfolding rows_erased
    rows-erased from count s h = (
      All-append Row (take from s.grid.cells)
          (replicate count (replicate s.grid.cols (blank_of s)) ++ drop (from + count) s.grid.cells)
          (All-take Row from s.grid.cells h.0)
          (All-append Row (replicate count (replicate s.grid.cols (blank_of s))) (drop (from + count) s.grid.cells)
          (law.filling count s.grid.cols (blank_of s) (blank (blank_of s) refl)) (All-drop Row (from + count) s.grid.cells h.0)),
      h.1,
    )

    display-erased : (which : ℕ) (s : Screen) → HasHalves s → HasHalves (erase_display which s)
    unfolding erase_display
    display-erased which s h =
        let low = line_end_erased s in
        let high = line_start_erased s in
        either (which == 0) (without_pending_wrap (below_erased low)) _
        (rows-erased (low.state.y + 1) (low.grid.rows - (low.state.y + 1)) low (line-erased s.state.x (s.grid.cols - 1) s h))
        (either (which == 1) (without_pending_wrap (above_erased high)) _
        (rows-erased 0 high.state.y high (line-erased 0 s.state.x s h))
        (either (which == 2 || which == 3) (without_pending_wrap (all_erased s)) s (rows-erased 0 s.grid.rows s h) h))

    row-erased : (which : ℕ) (s : Screen) → HasHalves s → HasHalves (erase_line which s)
    unfolding erase_line
    row-erased which s h =
        either (which == 0) (without_pending_wrap (line_end_erased s)) _ (line-erased s.state.x (s.grid.cols - 1) s h)
        (either (which == 1) (without_pending_wrap (line_start_erased s)) _ (line-erased 0 s.state.x s h)
        (either (which == 2) (without_pending_wrap (line_erased 0 (s.grid.cols - 1) s)) s (line-erased 0 (s.grid.cols - 1) s h) h))

    characters-erased : (n : ℕ) (s : Screen) → HasHalves s → HasHalves (erase_characters n s)
    unfolding erase_characters
    characters-erased n s h = line-erased s.state.x (min (s.state.x + n - 1) (s.grid.cols - 1)) s h

    characters-inserted : (n : ℕ) (s : Screen) → HasHalves s → HasHalves (insert_characters n s)
    unfolding insert_characters
    characters-inserted n s h = cells-inserted n s h

    characters-deleted : (n : ℕ) (s : Screen) → HasHalves s → HasHalves (delete_characters n s)
    unfolding delete_characters
    characters-deleted n s h = cells-deleted n s h

    lines-inserted : (n : ℕ) (s : Screen) → HasHalves s → HasHalves (insert_lines n s)
    unfolding insert_lines
    lines-inserted n s h =
        either (in_region s) _ s (law.scrolling_down s.grid s.state.y s.state.bottom n (blank_of s) h.0 (blank (blank_of s) refl), h.1) h

    lines-deleted : (n : ℕ) (s : Screen) → HasHalves s → HasHalves (delete_lines n s)
    unfolding delete_lines
    lines-deleted n s h =
        either (in_region s) _ s (law.scrolling_up s.grid s.state.y s.state.bottom n (blank_of s) h.0 (blank (blank_of s) refl), h.1) h

    -- what makes the screen anew
    screen-reset : (s : Screen) → HasHalves s → HasHalves (reset s)
    unfolding reset
    screen-reset s h = (law.filling s.grid.rows s.grid.cols _ (blank _ refl), h.1)

    screen-aligned : (s : Screen) → HasHalves s → HasHalves (alignment_pattern s)
    unfolding alignment_pattern
    screen-aligned s h = (law.filling s.grid.rows s.grid.cols _ (blank _ refl), h.1)

    -- printing
    put : (w code : ℕ) (s : Screen) → Draws w code → HasHalves s → HasHalves (with_cells_at_cursor (codes_drawn w code) s)
    put w code s is h =
        (law.drawing s.grid s.state.y s.state.x (cells_of_codes (codes_drawn w code) (pen_byte s)) h.0 (is (pen_byte s)), h.1)

    set-down : (w code : ℕ) (s : Screen) → Draws w code → HasHalves s → HasHalves (with_character w code s)
    set-down w code s is h =
        let there = after_wrap w s in
        let there_is : HasHalves there =
        either (s.state.autowrap && (s.state.wrap || lacks_room w s)) (linefeed (at_column 0 s)) _ (line-feed (at_column 0 s) h)
        (either (lacks_room w s) (at_column (s.grid.cols - w) s) s h h) in
        put w code (with_gap w there) is (either there.state.insert (cells_inserted w there) there (cells-inserted w there there_is) there_is)

    pub printed_once : (w code : ℕ) (s : Screen) → Draws 1 0xFFFD → Draws w code → HasHalves s → HasHalves (print w code s)
    unfolding print
    printed_once w code s malformed is h =
        either (w == 0) s _ h
        (either (w == 2 && s.grid.cols == 1) (with_character 1 0xFFFD s) (with_character w code s) (set-down 1 0xFFFD s malformed h) (set-down w code s is h))

    -- what changes the state alone
    coded : (last : ℕ) (s : Screen) → HasHalves s → HasHalves (with_coding last s)
    unfolding with_coding
    coded last s h = either (last == 0x40) _ _ h (either (last == 0x47) _ _ h (either (last == 0x38) _ s h h))

    stops-cleared : (which : ℕ) (s : Screen) → HasHalves s → HasHalves (clear_stops which s)
    unfolding clear_stops
    stops-cleared which s h = either (which == 0) _ _ h (either (which == 3) _ s h h)

    each-keeps : (f : ℕ → Screen → Screen) → ((n : ℕ) (s : Screen) → HasHalves s → HasHalves (f n s))
        → (numbers : List ℕ) (s : Screen) → HasHalves s → HasHalves (each f numbers s)
    each-keeps f keeps [] s h = h
    each-keeps f keeps (n ∷ numbers) s h = each-keeps f keeps numbers (f n s) (keeps n s h)

    mode-set : (on : Bool) (n : ℕ) (s : Screen) → HasHalves s → HasHalves (with_mode on n s)
    unfolding with_mode
    mode-set on n s h = either (n == 3) _ _ h (either (n == 4) _ _ h (either (n == 20) _ s h h))

    private-mode-set : (on : Bool) (n : ℕ) (s : Screen) → HasHalves s → HasHalves (with_private_mode on n s)
    unfolding with_private_mode cursor_to_in_region cursor_to
    private-mode-set on n s h =
        either (n == 1) _ _ h
        (either (n == 5) _ _ h
        (either (n == 6) _ _ h
        (either (n == 7) _ _ h
        (either (n == 8) _ _ h
        (either (n == 25) _ s h h)))))

    region-set : (t b : ℕ) (s : Screen) → HasHalves s → HasHalves (with_region t b s)
    unfolding with_region cursor_to_in_region cursor_to
    region-set t b s h =
        let last = cond (b == 0) s.grid.rows b in
        either (nat_lt t last && nat_le last s.grid.rows) _ s h h

    pub coloured : (n : ℕ) (rgb : Rgb) (s : Screen) → HasHalves s → HasHalves (with_colour n rgb s)
    unfolding with_colour
    coloured n rgb s h = either (nat_lt n 16) _ s h h

    pub colours_reset : (s : Screen) → HasHalves s → HasHalves (with_start_palette s)
    unfolding with_start_palette
    colours_reset s h = h

    -- what says something
    device : (which : ℕ) (s : Screen) → HasHalves s → HasHalves (device_report which s).screen
    unfolding device_report
    device which s h = either-done (which == 0) _ (without_out s) h h

    status : (which : ℕ) (s : Screen) → HasHalves s → HasHalves (status_report which s).screen
    unfolding status_report
    status which s h = either-done (which == 5) _ _ h (either-done (which == 6) _ (without_out s) h h)

    lit : (which : ℕ) (s : Screen) → HasHalves s → HasHalves (lights which s).screen
    unfolding lights
    lit which s h =
        either-done (which == 0) _ _ h
        (either-done (which == 1) _ _ h (either-done (which == 2) _ _ h (either-done (which == 3) _ (without_out s) h h)))

    setting : (which value : ℕ) (s : Screen) → HasHalves s → HasHalves (console_setting which value s).screen
    unfolding console_setting
    setting which value s h =
        either-done (which == 1) _ _ (either (nat_lt value 16) _ s h h)
        (either-done (which == 2) _ _ (either (nat_lt value 16) _ s h h)
        (either-done (which == 8) _ _ h
        (either-done (which == 12) _ _ (either-done (nat_le 1 value && nat_le value 63) _ (without_out s) h h)
        (either-done (which == 15) _ (without_out s) h h))))

    -- the table
    pub control_keeps : (code : ℕ) (s : Screen) → HasHalves s → HasHalves (control code s).screen
    unfolding control tab after_shift
    control_keeps code s h =
        either-done (code == 0x07) _ _ h
        (either-done (code == 0x08) _ _ h
        (either-done (code == 0x09) _ _ h
        (either-done (code == 0x0A) _ _ (new-line s h)
        (either-done (code == 0x0B) _ _ (new-line s h)
        (either-done (code == 0x0C) _ _ (new-line s h)
        (either-done (code == 0x0D) _ _ h
        (either-done (code == 0x0E) _ _ h
        (either-done (code == 0x0F) _ (without_out s) h h))))))))

    plain-escape-keeps : (last : ℕ) (s : Screen) → HasHalves s → HasHalves (plain_escape last s).screen
    unfolding plain_escape set_stop save restore cursor_to with_keypad
    plain-escape-keeps last s h =
        either-done (last == 0x63) _ _ (screen-reset s h)
        (either-done (last == 0x44) _ _ (line-feed s h)
        (either-done (last == 0x45) _ _ (line-feed (at_column 0 s) h)
        (either-done (last == 0x48) _ _ h
        (either-done (last == 0x4D) _ _ (reverse-line-feed s h)
        (either-done (last == 0x5A) _ _ (device 0 s h)
        (either-done (last == 0x37) _ _ h
        (either-done (last == 0x38) _ _ h
        (either-done (last == 0x3E) _ _ h
        (either-done (last == 0x3D) _ (without_out s) h h)))))))))

    pub escape_keeps : (mid last : ℕ) (s : Screen) → HasHalves s → HasHalves (escape mid last s).screen
    unfolding escape with_g0 with_g1
    escape_keeps mid last s h =
        either-done (mid == 0) _ _ (plain-escape-keeps last s h)
        (either-done (mid == 0x25) _ _ (coded last s h)
        (either-done (mid == 0x23) _ _ (either (last == 0x38) (alignment_pattern s) s (screen-aligned s h) h)
        (either-done (mid == 0x28) _ _ h
        (either-done (mid == 0x29) _ (without_out s) h h))))

    pub private_keeps : (params : List ℕ) (last : ℕ) (s : Screen) → HasHalves s → HasHalves (private_sequence params last s).screen
    unfolding private_sequence
    private_keeps params last s h =
        either-done (last == 0x68) _ _ (each-keeps (with_private_mode true) (private-mode-set true) params s h)
        (either-done (last == 0x6C) _ (without_out s) (each-keeps (with_private_mode false) (private-mode-set false) params s h) h)

    pub sequence_keeps : (params : List ℕ) (last : ℕ) (s : Screen) → HasHalves s → HasHalves (control_sequence params last s).screen
    unfolding control_sequence cursor_to cursor_to_in_region after_sgr save restore
    sequence_keeps params last s h =
        let n = count_of params in
        let first = number_at params 0 in
        let second = number_at params 1 in
        either-done (last == 0x40) _ _ (characters-inserted n s h)
        (either-done (last == 0x41) _ _ h
        (either-done (last == 0x42) _ _ h
        (either-done (last == 0x43) _ _ h
        (either-done (last == 0x44) _ _ h
        (either-done (last == 0x45) _ _ h
        (either-done (last == 0x46) _ _ h
        (either-done (last == 0x47) _ _ h
        (either-done (last == 0x48) _ _ h
        (either-done (last == 0x4A) _ _ (display-erased first s h)
        (either-done (last == 0x4B) _ _ (row-erased first s h)
        (either-done (last == 0x4C) _ _ (lines-inserted n s h)
        (either-done (last == 0x4D) _ _ (lines-deleted n s h)
        (either-done (last == 0x50) _ _ (characters-deleted n s h)
        (either-done (last == 0x58) _ _ (characters-erased n s h)
        (either-done (last == 0x61) _ _ h
        (either-done (last == 0x63) _ _ (device first s h)
        (either-done (last == 0x64) _ _ h
        (either-done (last == 0x65) _ _ h
        (either-done (last == 0x66) _ _ h
        (either-done (last == 0x67) _ _ (stops-cleared first s h)
        (either-done (last == 0x68) _ _ (each-keeps (with_mode true) (mode-set true) params s h)
        (either-done (last == 0x6C) _ _ (each-keeps (with_mode false) (mode-set false) params s h)
        (either-done (last == 0x6D) _ _ h
        (either-done (last == 0x6E) _ _ (status first s h)
        (either-done (last == 0x71) _ _ (lit first s h)
        (either-done (last == 0x72) _ _ (region-set n second s h)
        (either-done (last == 0x73) _ _ h
        (either-done (last == 0x75) _ _ h
        (either-done (last == 0x60) _ _ h
        (either-done (last == 0x5D) _ (without_out s) (setting first second s h) h))))))))))))))))))))))))))))))
