-- No text changes the number of columns of a screen.
use Rattle.std.proofs.Common.{◌≡◌, ℕ, ◌-◌, ◌==◌, ◌&&◌, ◌||◌, Bool, true, false, List, [], ◌∷◌, nat_lt, nat_le, refl, cond}
use Rattle.vt_canvas.specs.Cursor.{at_column, cursor_to, cursor_to_in_region, linefeed, newline, region_down, region_up, reverse_linefeed, tab}
use Rattle.vt_canvas.specs.Effect.{control, control_sequence, effect, escape, plain_escape, private_sequence}
use Rattle.vt_canvas.specs.Erasing.{cells_inserted, delete_characters, delete_lines, erase_characters, erase_display, erase_line, in_region, insert_characters, insert_lines, rows_erased}
use Rattle.vt_canvas.specs.Printing.{character_of_byte, lacks_room, print, print_character, with_character, after_wrap}
use Rattle.vt_canvas.specs.Saying.{Effect, console_setting, device_report, lights, status_report, without_out}
use Rattle.vt_canvas.specs.Screen.{Screen, mode_of}
use Rattle.vt_canvas.specs.Settings.{alignment_pattern, clear_stops, each, after_shift, after_sgr, reset, restore, save, set_stop, with_coding, with_colour, with_g0, with_g1, with_keypad, with_mode, with_private_mode, with_region, with_start_palette}
use Rattle.vt_cells.specs.Colours.{Rgb}
use Rattle.vt_cells.specs.Width.{columns}
use Rattle.vt_screen.specs.Run.{ScreenAndOuts, after, screen_effects, with_outs}
use Rattle.vt_units.specs.Answer.{answer}
use Rattle.vt_units.specs.Run.{Reached, effect_of, run, step}
use Rattle.vt_units.specs.declared.read.Read.{Read}
use Rattle.vt_units.specs.declared.then.Then as then
use Rattle.vt_units.specs.declared.unit.Unit as units

-- rows have so many columns
abbrev HasCols : ℕ → Screen → Type 0
HasCols cols s = s.grid.cols ≡ cols

module _ (cols : ℕ) where
  either : (test : Bool) (s t : Screen) → HasCols cols s → HasCols cols t → HasCols cols (cond test s t)
  either true s t first second = first
  either false s t first second = second

  either_done : (test : Bool) (s t : Effect) → HasCols cols s.screen → HasCols cols t.screen → HasCols cols (cond test s t).screen
  either_done true s t first second = first
  either_done false s t first second = second

  line_feed : (s : Screen) → HasCols cols s → HasCols cols (linefeed s)
  line_feed s h = either (s.state.y == s.state.bottom) (region_up s) _ h h

  new_line : (s : Screen) → HasCols cols s → HasCols cols (newline s)
  new_line s h = line_feed (cond s.state.newline (at_column 0 s) s) (either s.state.newline (at_column 0 s) s h h)

  reverse_line_feed : (s : Screen) → HasCols cols s → HasCols cols (reverse_linefeed s)
  reverse_line_feed s h = either (s.state.y == s.state.top) (region_down s) _ h h

  wrapped : (w : ℕ) (s : Screen) → HasCols cols s → HasCols cols (after_wrap w s)
  wrapped w s h =
      either (s.state.autowrap && (s.state.wrap || lacks_room w s)) (linefeed (at_column 0 s)) _ (line_feed (at_column 0 s) h)
      (either (lacks_room w s) (at_column (s.grid.cols - w) s) s h h)

  set_down : (w code : ℕ) (s : Screen) → HasCols cols s → HasCols cols (with_character w code s)
  set_down w code s h =
      let there = after_wrap w s in
      let there_is : HasCols cols there = wrapped w s h in
      either there.state.insert (cells_inserted w there) there there_is there_is

  printed : (w code : ℕ) (s : Screen) → HasCols cols s → HasCols cols (print w code s)
  unfolding print
  printed w code s h =
      either (w == 0) s _ h
      (either (w == 2 && s.grid.cols == 1) (with_character 1 0xFFFD s) (with_character w code s) (set_down 1 0xFFFD s h) (set_down w code s h))

  each_keeps : (f : ℕ → Screen → Screen) → ((n : ℕ) (s : Screen) → HasCols cols s → HasCols cols (f n s))
      → (numbers : List ℕ) (s : Screen) → HasCols cols s → HasCols cols (each f numbers s)
  each_keeps f keeps [] s h = h
  each_keeps f keeps (n ∷ numbers) s h = each_keeps f keeps numbers (f n s) (keeps n s h)

  mode_set : (on : Bool) (n : ℕ) (s : Screen) → HasCols cols s → HasCols cols (with_mode on n s)
  unfolding with_mode
  mode_set on n s h = either (n == 3) _ _ h (either (n == 4) _ _ h (either (n == 20) _ s h h))

  private_mode_set : (on : Bool) (n : ℕ) (s : Screen) → HasCols cols s → HasCols cols (with_private_mode on n s)
  unfolding with_private_mode cursor_to_in_region cursor_to
  private_mode_set on n s h =
      either (n == 1) _ _ h
      (either (n == 5) _ _ h
      (either (n == 6) _ _ h
      (either (n == 7) _ _ h
      (either (n == 8) _ _ h
      (either (n == 25) _ s h h)))))

  control_keeps : (code : ℕ) (s : Screen) → HasCols cols s → HasCols cols (control code s).screen
  unfolding control tab after_shift
  control_keeps code s h =
      either_done (code == 0x07) _ _ h
      (either_done (code == 0x08) _ _ h
      (either_done (code == 0x09) _ _ h
      (either_done (code == 0x0A) _ _ (new_line s h)
      (either_done (code == 0x0B) _ _ (new_line s h)
      (either_done (code == 0x0C) _ _ (new_line s h)
      (either_done (code == 0x0D) _ _ h
      (either_done (code == 0x0E) _ _ h
      (either_done (code == 0x0F) _ (without_out s) h h))))))))

  plain_escape_keeps : (last : ℕ) (s : Screen) → HasCols cols s → HasCols cols (plain_escape last s).screen
  unfolding plain_escape reset set_stop device_report save restore cursor_to with_keypad
  plain_escape_keeps last s h =
      either_done (last == 0x63) _ _ h
      (either_done (last == 0x44) _ _ (line_feed s h)
      (either_done (last == 0x45) _ _ (line_feed (at_column 0 s) h)
      (either_done (last == 0x48) _ _ h
      (either_done (last == 0x4D) _ _ (reverse_line_feed s h)
      (either_done (last == 0x5A) _ _ h
      (either_done (last == 0x37) _ _ h
      (either_done (last == 0x38) _ _ h
      (either_done (last == 0x3E) _ _ h
      (either_done (last == 0x3D) _ (without_out s) h h)))))))))

  coded : (last : ℕ) (s : Screen) → HasCols cols s → HasCols cols (with_coding last s)
  unfolding with_coding
  coded last s h = either (last == 0x40) _ _ h (either (last == 0x47) _ _ h (either (last == 0x38) _ s h h))

  escape_keeps : (mid last : ℕ) (s : Screen) → HasCols cols s → HasCols cols (escape mid last s).screen
  unfolding escape alignment_pattern with_g0 with_g1
  escape_keeps mid last s h =
      either_done (mid == 0) _ _ (plain_escape_keeps last s h)
      (either_done (mid == 0x25) _ _ (coded last s h)
      (either_done (mid == 0x23) _ _ (either (last == 0x38) (alignment_pattern s) s h h)
      (either_done (mid == 0x28) _ _ h
      (either_done (mid == 0x29) _ (without_out s) h h))))

  private_keeps : (params : List ℕ) (last : ℕ) (s : Screen) → HasCols cols s → HasCols cols (private_sequence params last s).screen
  unfolding private_sequence
  private_keeps params last s h =
      either_done (last == 0x68) _ _ (each_keeps (with_private_mode true) (private_mode_set true) params s h)
      (either_done (last == 0x6C) _ (without_out s) (each_keeps (with_private_mode false) (private_mode_set false) params s h) h)

  display_erased : (which : ℕ) (s : Screen) → HasCols cols s → HasCols cols (erase_display which s)
  unfolding erase_display rows_erased
  display_erased which s h = either (which == 0) _ _ h (either (which == 1) _ _ h (either (which == 2 || which == 3) _ s h h))

  row_erased : (which : ℕ) (s : Screen) → HasCols cols s → HasCols cols (erase_line which s)
  unfolding erase_line
  row_erased which s h = either (which == 0) _ _ h (either (which == 1) _ _ h (either (which == 2) _ s h h))

  lines_inserted : (n : ℕ) (s : Screen) → HasCols cols s → HasCols cols (insert_lines n s)
  unfolding insert_lines
  lines_inserted n s h = either (in_region s) _ s h h

  lines_deleted : (n : ℕ) (s : Screen) → HasCols cols s → HasCols cols (delete_lines n s)
  unfolding delete_lines
  lines_deleted n s h = either (in_region s) _ s h h

  stops_cleared : (which : ℕ) (s : Screen) → HasCols cols s → HasCols cols (clear_stops which s)
  unfolding clear_stops
  stops_cleared which s h = either (which == 0) _ _ h (either (which == 3) _ s h h)

  device : (which : ℕ) (s : Screen) → HasCols cols s → HasCols cols (device_report which s).screen
  unfolding device_report
  device which s h = either_done (which == 0) _ (without_out s) h h

  status : (which : ℕ) (s : Screen) → HasCols cols s → HasCols cols (status_report which s).screen
  unfolding status_report
  status which s h = either_done (which == 5) _ _ h (either_done (which == 6) _ (without_out s) h h)

  lit : (which : ℕ) (s : Screen) → HasCols cols s → HasCols cols (lights which s).screen
  unfolding lights
  lit which s h =
      either_done (which == 0) _ _ h
      (either_done (which == 1) _ _ h (either_done (which == 2) _ _ h (either_done (which == 3) _ (without_out s) h h)))

  setting : (which value : ℕ) (s : Screen) → HasCols cols s → HasCols cols (console_setting which value s).screen
  unfolding console_setting
  setting which value s h =
      either_done (which == 1) _ _ (either (nat_lt value 16) _ s h h)
      (either_done (which == 2) _ _ (either (nat_lt value 16) _ s h h)
      (either_done (which == 8) _ _ h
      (either_done (which == 12) _ _ (either_done (nat_le 1 value && nat_le value 63) _ (without_out s) h h)
      (either_done (which == 15) _ (without_out s) h h))))

  region_set : (t b : ℕ) (s : Screen) → HasCols cols s → HasCols cols (with_region t b s)
  unfolding with_region cursor_to_in_region cursor_to
  region_set t b s h =
      let last = cond (b == 0) s.grid.rows b in
      either (nat_lt t last && nat_le last s.grid.rows) _ s h h

  sequence_keeps : (params : List ℕ) (last : ℕ) (s : Screen) → HasCols cols s → HasCols cols (control_sequence params last s).screen
  unfolding control_sequence insert_characters cursor_to cursor_to_in_region delete_characters erase_characters after_sgr save restore
  sequence_keeps params last s h =
      either_done (last == 0x40) _ _ h
      (either_done (last == 0x41) _ _ h
      (either_done (last == 0x42) _ _ h
      (either_done (last == 0x43) _ _ h
      (either_done (last == 0x44) _ _ h
      (either_done (last == 0x45) _ _ h
      (either_done (last == 0x46) _ _ h
      (either_done (last == 0x47) _ _ h
      (either_done (last == 0x48) _ _ h
      (either_done (last == 0x4A) _ _ (display_erased _ s h)
      (either_done (last == 0x4B) _ _ (row_erased _ s h)
      (either_done (last == 0x4C) _ _ (lines_inserted _ s h)
      (either_done (last == 0x4D) _ _ (lines_deleted _ s h)
      (either_done (last == 0x50) _ _ h
      (either_done (last == 0x58) _ _ h
      (either_done (last == 0x61) _ _ h
      (either_done (last == 0x63) _ _ (device _ s h)
      (either_done (last == 0x64) _ _ h
      (either_done (last == 0x65) _ _ h
      (either_done (last == 0x66) _ _ h
      (either_done (last == 0x67) _ _ (stops_cleared _ s h)
      (either_done (last == 0x68) _ _ (each_keeps (with_mode true) (mode_set true) params s h)
      (either_done (last == 0x6C) _ _ (each_keeps (with_mode false) (mode_set false) params s h)
      (either_done (last == 0x6D) _ _ h
      (either_done (last == 0x6E) _ _ (status _ s h)
      (either_done (last == 0x71) _ _ (lit _ s h)
      (either_done (last == 0x72) _ _ (region_set _ _ s h)
      (either_done (last == 0x73) _ _ h
      (either_done (last == 0x75) _ _ h
      (either_done (last == 0x60) _ _ h
      (either_done (last == 0x5D) _ (without_out s) (setting _ _ s h) h))))))))))))))))))))))))))))))

  coloured : (n : ℕ) (rgb : Rgb) (s : Screen) → HasCols cols s → HasCols cols (with_colour n rgb s)
  unfolding with_colour
  coloured n rgb s h = either (nat_lt n 16) _ s h h

  palette_reset : (s : Screen) → HasCols cols s → HasCols cols (with_start_palette s)
  unfolding with_start_palette
  palette_reset s h = h

  unit_keeps : (u : units.Unit) (s : Screen) → HasCols cols s → HasCols cols (effect u s).screen
  unit_keeps (units.Unit.Char code) s h = printed (columns code) code s h
  unit_keeps (units.Unit.Byte b) s h = printed 1 (character_of_byte b s) s h
  unit_keeps (units.Unit.Control code) s h = control_keeps code s h
  unit_keeps (units.Unit.Esc mid last) s h = escape_keeps mid last s h
  unit_keeps (units.Unit.Csi true params last) s h = private_keeps params last s h
  unit_keeps (units.Unit.Csi false params last) s h = sequence_keeps params last s h
  unit_keeps (units.Unit.Colour n rgb) s h = coloured n rgb s h
  unit_keeps units.Unit.ColourReset s h = palette_reset s h
  unit_keeps units.Unit.Ignored s h = h

  then_keeps : (t : then.Then) (at : ScreenAndOuts) → HasCols cols at.screen → HasCols cols (effect_of screen_effects t at).screen
  then_keeps (then.Then.Unit u) at h = unit_keeps u at.screen h
  then_keeps (then.Then.Act code) at h = control_keeps code at.screen h
  then_keeps then.Then.More at h = h
  then_keeps then.Then.Dropped at h = h

  bad_keeps : (bad : Bool) (at : ScreenAndOuts) → HasCols cols at.screen
      → HasCols cols (cond bad (screen_effects.on_unit (units.Unit.Char 0xFFFD) at) at).screen
  bad_keeps true at h = printed (columns 0xFFFD) 0xFFFD at.screen h
  bad_keeps false at h = h

  run_keeps : (bytes : List ℕ) (at : Reached ScreenAndOuts) → HasCols cols at.state.screen
      → HasCols cols (run screen_effects bytes at).state.screen
  run_keeps [] at h = h
  run_keeps (b ∷ bytes) at h =
      let read : Read = answer at.rest (mode_of at.state.screen) b in
      run_keeps bytes (step screen_effects b at)
      (then_keeps read.got (cond read.bad (screen_effects.on_unit (units.Unit.Char 0xFFFD) at.state) at.state)
      (bad_keeps read.bad at.state h))

-- a character is printed
pub cols_of_printed : (code : ℕ) (s : Screen) → (print_character code s).grid.cols ≡ s.grid.cols
cols_of_printed code s = printed s.grid.cols (columns code) code s refl

-- a text is run
pub cols_stay : (m : Reached Screen) (bytes : List ℕ) → (after m bytes).state.grid.cols ≡ m.state.grid.cols
cols_stay m bytes = run_keeps m.state.grid.cols bytes (with_outs [] m) refl
