-- Each case of the effect table leaves the cursor inside.
use Rattle.std.proofs.Common.{ℕ, ◌+◌, ◌-◌, ◌==◌, ◌&&◌, Bool, true, false, List, nat_lt, nat_le, arith}
use Rattle.std.specs.Prelude.{IsTrue}
use Rattle.std.proofs.lemmas.Bool.{and_from}
use Rattle.vt_screen.proofs.for_laws.Insides.{IsInside, characters_deleted, characters_erased, characters_inserted, coded, cursor_cursor_to, cursor_cursor_to_in_region, display_erased, each_keeps, either, either_done, either_done_if, first_column, first_set, invoked, keypad_set, line_feed, lines_deleted, lines_inserted, mode_set, new_line, pen_set, private_mode_set, region_set, restored, reverse_line_feed, row_erased, cursor_saved, screen_alignment_pattern, screen_reset, second_set, stop_set, stops_cleared, tabbed, to_column}
use Rattle.vt_canvas.specs.Cursor.{at_column}
use Rattle.vt_canvas.specs.Effect.{control, control_sequence, count_of, escape, number_at, plain_escape, private_sequence}
use Rattle.vt_canvas.specs.Saying.{console_setting, device_report, lights, without_out, status_report}
use Rattle.vt_canvas.specs.Screen.{Screen, start_saved}
use Rattle.vt_screen.specs.SavedCursor.{saved_of}
use Rattle.vt_canvas.specs.Settings.{alignment_pattern, with_mode, with_private_mode}
use Rattle.vt_canvas.specs.declared.saved.Saved.{Saved}

module _ (rule : Saved → ℕ → ℕ → Type 0) where
  -- what says something
  device : (which : ℕ) (s : Screen) → IsInside rule s → IsInside rule (device_report which s).screen
  unfolding device_report IsInside
  device which s h = either_done rule (which == 0) _ (without_out s) h h

  status : (which : ℕ) (s : Screen) → IsInside rule s → IsInside rule (status_report which s).screen
  unfolding status_report IsInside
  status which s h = either_done rule (which == 5) _ _ h (either_done rule (which == 6) _ (without_out s) h h)

  lit : (which : ℕ) (s : Screen) → IsInside rule s → IsInside rule (lights which s).screen
  unfolding lights IsInside
  lit which s h =
      either_done rule (which == 0) _ _ h
      (either_done rule (which == 1) _ _ h (either_done rule (which == 2) _ _ h (either_done rule (which == 3) _ (without_out s) h h)))

  setting : (which value : ℕ) (s : Screen) → IsInside rule s → IsInside rule (console_setting which value s).screen
  unfolding console_setting IsInside
  setting which value s h =
      either_done rule (which == 1) _ _ (either rule (nat_lt value 16) _ s h h)
      (either_done rule (which == 2) _ _ (either rule (nat_lt value 16) _ s h h)
      (either_done rule (which == 8) _ _ h
      (either_done rule (which == 12) _ _ (either_done rule (nat_le 1 value && nat_le value 63) _ (without_out s) h h)
      (either_done rule (which == 15) _ (without_out s) h h))))

  back-one : (s : Screen) → IsInside rule s → IsInside rule (at_column (s.state.x - 1) s)
  unfolding IsInside
  back-one s h = let x = h.1 in to_column rule (s.state.x - 1) s (omega (arith, x)) h

  -- the table
  pub control_keeps : (code : ℕ) (s : Screen) → IsInside rule s → IsInside rule (control code s).screen
  unfolding control
  control_keeps code s h =
      either_done rule (code == 0x07) _ _ h
      (either_done rule (code == 0x08) _ _ (back-one s h)
      (either_done rule (code == 0x09) _ _ (tabbed rule s h)
      (either_done rule (code == 0x0A) _ _ (new_line rule s h)
      (either_done rule (code == 0x0B) _ _ (new_line rule s h)
      (either_done rule (code == 0x0C) _ _ (new_line rule s h)
      (either_done rule (code == 0x0D) _ _ (first_column rule s h)
      (either_done rule (code == 0x0E) _ _ (invoked rule 1 true s h)
      (either_done rule (code == 0x0F) _ (without_out s) (invoked rule 0 false s h) h))))))))

  -- what is saved keeps to the rule where an act saves or resets
  abbrev Saving : Bool → Screen → Type 0
  Saving test s = IsTrue test → rule (saved_of s) s.grid.rows s.grid.cols

  abbrev Resetting : Bool → Screen → Type 0
  Resetting test s = IsTrue test → rule start_saved s.grid.rows s.grid.cols

  plain-escape-keeps : (last : ℕ) (s : Screen) → Saving (last == 0x37) s → Resetting (last == 0x63) s → IsInside rule s → IsInside rule (plain_escape last s).screen
  unfolding plain_escape
  plain-escape-keeps last s save_ok reset_ok h =
      either_done_if rule (last == 0x63) _ _ (λ e. screen_reset rule s h (reset_ok e)) (λ _.
      (either_done rule (last == 0x44) _ _ (line_feed rule s h)
      (either_done rule (last == 0x45) _ _ (line_feed rule (at_column 0 s) (first_column rule s h))
      (either_done rule (last == 0x48) _ _ (stop_set rule s h)
      (either_done rule (last == 0x4D) _ _ (reverse_line_feed rule s h)
      (either_done rule (last == 0x5A) _ _ (device 0 s h)
      (either_done_if rule (last == 0x37) _ _ (λ e. cursor_saved rule s h (save_ok e)) (λ _.
      (either_done rule (last == 0x38) _ _ (restored rule s h)
      (either_done rule (last == 0x3E) _ _ (keypad_set rule false s h)
      (either_done rule (last == 0x3D) _ (without_out s) (keypad_set rule true s h) h)))))))))))

  pub escape_keeps : (mid last : ℕ) (s : Screen) → Saving (mid == 0 && last == 0x37) s → Resetting (mid == 0 && last == 0x63) s → IsInside rule s → IsInside rule (escape mid last s).screen
  unfolding escape
  escape_keeps mid last s save_ok reset_ok h =
      either_done_if rule (mid == 0) _ _
      (λ e. plain-escape-keeps last s (λ f. save_ok (and_from (mid == 0) (last == 0x37) e f)) (λ f. reset_ok (and_from (mid == 0) (last == 0x63) e f)) h) (λ _.
      (either_done rule (mid == 0x25) _ _ (coded rule last s h)
      (either_done rule (mid == 0x23) _ _ (either rule (last == 0x38) (alignment_pattern s) s (screen_alignment_pattern rule s h) h)
      (either_done rule (mid == 0x28) _ _ (first_set rule last s h)
      (either_done rule (mid == 0x29) _ (without_out s) (second_set rule last s h) h)))))

  pub private_keeps : (params : List ℕ) (last : ℕ) (s : Screen) → IsInside rule s → IsInside rule (private_sequence params last s).screen
  unfolding private_sequence
  private_keeps params last s h =
      either_done rule (last == 0x68) _ _ (each_keeps rule (with_private_mode true) (private_mode_set rule true) params s h)
      (either_done rule (last == 0x6C) _ (without_out s) (each_keeps rule (with_private_mode false) (private_mode_set rule false) params s h) h)

  pub sequence_keeps : (params : List ℕ) (last : ℕ) (s : Screen) → Saving (last == 0x73) s → IsInside rule s → IsInside rule (control_sequence params last s).screen
  unfolding control_sequence
  sequence_keeps params last s save_ok h =
      let n = count_of params in
      let first = number_at params 0 in
      let second = number_at params 1 in
      let y = s.state.y in
      let x = s.state.x in
      either_done rule (last == 0x40) _ _ (characters_inserted rule n s h)
      (either_done rule (last == 0x41) _ _ (cursor_cursor_to rule (y - n) x s h)
      (either_done rule (last == 0x42) _ _ (cursor_cursor_to rule (y + n) x s h)
      (either_done rule (last == 0x43) _ _ (cursor_cursor_to rule y (x + n) s h)
      (either_done rule (last == 0x44) _ _ (cursor_cursor_to rule y (x - n) s h)
      (either_done rule (last == 0x45) _ _ (cursor_cursor_to rule (y + n) 0 s h)
      (either_done rule (last == 0x46) _ _ (cursor_cursor_to rule (y - n) 0 s h)
      (either_done rule (last == 0x47) _ _ (cursor_cursor_to rule y (n - 1) s h)
      (either_done rule (last == 0x48) _ _ (cursor_cursor_to_in_region rule (n - 1) (second - 1) s h)
      (either_done rule (last == 0x4A) _ _ (display_erased rule first s h)
      (either_done rule (last == 0x4B) _ _ (row_erased rule first s h)
      (either_done rule (last == 0x4C) _ _ (lines_inserted rule n s h)
      (either_done rule (last == 0x4D) _ _ (lines_deleted rule n s h)
      (either_done rule (last == 0x50) _ _ (characters_deleted rule n s h)
      (either_done rule (last == 0x58) _ _ (characters_erased rule n s h)
      (either_done rule (last == 0x61) _ _ (cursor_cursor_to rule y (x + n) s h)
      (either_done rule (last == 0x63) _ _ (device first s h)
      (either_done rule (last == 0x64) _ _ (cursor_cursor_to_in_region rule (n - 1) x s h)
      (either_done rule (last == 0x65) _ _ (cursor_cursor_to rule (y + n) x s h)
      (either_done rule (last == 0x66) _ _ (cursor_cursor_to_in_region rule (n - 1) (second - 1) s h)
      (either_done rule (last == 0x67) _ _ (stops_cleared rule first s h)
      (either_done rule (last == 0x68) _ _ (each_keeps rule (with_mode true) (mode_set rule true) params s h)
      (either_done rule (last == 0x6C) _ _ (each_keeps rule (with_mode false) (mode_set rule false) params s h)
      (either_done rule (last == 0x6D) _ _ (pen_set rule params s h)
      (either_done rule (last == 0x6E) _ _ (status first s h)
      (either_done rule (last == 0x71) _ _ (lit first s h)
      (either_done rule (last == 0x72) _ _ (region_set rule n second s h)
      (either_done_if rule (last == 0x73) _ _ (λ e. cursor_saved rule s h (save_ok e)) (λ _.
      (either_done rule (last == 0x75) _ _ (restored rule s h)
      (either_done rule (last == 0x60) _ _ (cursor_cursor_to rule y (n - 1) s h)
      (either_done rule (last == 0x5D) _ (without_out s) (setting first second s h) h)))))))))))))))))))))))))))))))
