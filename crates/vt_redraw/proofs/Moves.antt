-- Sequences that set the state, one lemma each: their effect on any screen.
use Rattle.std.proofs.Common.{◌≡◌, ℕ, zero, suc, ◌+◌, ◌-◌, ◌<◌, ◌≤◌, ◌==◌, ◌&&◌, ◌||◌, nat_le, nat_lt, min, max, not, Bool, true, false, [], ◌∷◌, ◌++◌, replicate, refl, ap, ◌∙◌, cond, arith}
use Rattle.std.specs.Fmt.{digits}
use Rattle.std.proofs.lemmas.Bool.{and_from, cond-true, cond-false, le-leb, lt-ltb, ne_eqb}
use Rattle.vt_redraw.proofs.Does.{Does, acts, does_then}
use Rattle.vt_redraw.proofs.Numbers.{sequence_does}
use Rattle.vt_redraw.specs.Sequences.{coding_text, g0_text, g1_text, keypad_text, mode_text, place_text, private_mode_text, save_text, sequence, shift_text, stop_text}
use Rattle.vt_redraw.specs.State.{tables_text}
use Rattle.vt_canvas.specs.Cursor.{first_row, cursor_home, last_row, cursor_to, cursor_to_in_region}
use Rattle.vt_canvas.specs.Effect.{control, control_sequence, escape, plain_escape, private_sequence}
use Rattle.vt_screen.specs.Run.{ScreenAndOuts, screen_effects, outs_of_option}
use Rattle.vt_canvas.specs.Saying.{Effect, without_out}
use Rattle.vt_canvas.specs.Screen.{Screen, mode_of, with_state}
use Rattle.vt_canvas.specs.Settings.{clear_stops, after_shift, save, set_stop, with_coding, with_g0, with_g1, with_keypad, with_mode, with_pen, with_private_mode, with_region}
use Rattle.vt_sgr.specs.PenState.{with_mapping}
use Rattle.vt_units.specs.Answer.{rest_after}
use Rattle.vt_units.specs.Bytes.{is_control}
use Rattle.vt_units.specs.Laws.{ControlsAreUnits, SequencesAreUnits}
use Rattle.vt_units.specs.Rest.{Rest, fresh}
use Rattle.vt_units.specs.Run.{effects_of, make_reached}
use Rattle.vt_units.specs.declared.mode.Mode.{Mode}
use Rattle.vt_units.specs.declared.read.Read.{Read}
use Rattle.vt_units.specs.declared.then.Then as then
use Rattle.vt_units.specs.declared.unit.Unit as units
use Rattle.vt_units.specs.declared.unit.Unit.TheVariants.{Csi, Esc}

-- the cursor at a row and a column, and no wrap pending
abbrev pub at : ℕ → ℕ → Screen → Screen
at y x s = with_state s (record s.state { y = y; x = x; wrap = false })

-- a move to where it may go
pub cursor_to_is : (y x : ℕ) (s : Screen) → first_row s ≤ y → y ≤ last_row s → x < s.grid.cols → cursor_to y x s ≡ at y x s
unfolding cursor_to
cursor_to_is y x s low high within =
    let column : min x (s.grid.cols - 1) ≡ x = omega (arith, within) in
    let row : max (first_row s) (min y (last_row s)) ≡ y = omega (arith, low, high) in
    λ i. with_state s (record s.state { x = column i; y = row i; wrap = false })

module _ (law : SequencesAreUnits) where
  -- CUP, where the row is counted from the first one that a move reaches
  pub place_does : (s : Screen) (y x : ℕ) → first_row s ≤ y → y ≤ last_row s → y < 255 → x < s.grid.cols → x < 255
      → Does (place_text (y - first_row s) x) s (at y x s)
  unfolding control_sequence cursor_to_in_region
  place_does s y x low high row within column =
      let first : ℕ = first_row s in
      sequence_does law (y - first + 1) ((x + 1) ∷ []) 0x48 (omega (arith, row)) (omega (arith, column), tt) (omega arith) refl refl s (at y x s)
      ((λ i. without_out (cursor_to (first + (let e : max 1 (y - first + 1) - 1 ≡ y - first = omega arith in e) i) ((let e : x + 1 - 1 ≡ x = omega arith in e) i) s))
      ∙ ap (λ (n : ℕ). without_out (cursor_to n x s)) (let e : first + (y - first) ≡ y = omega (arith, low) in e)
      ∙ ap without_out (cursor_to_is y x s low high within))

  -- CHA
  pub column_does : (s : Screen) (x : ℕ) → first_row s ≤ s.state.y → s.state.y ≤ last_row s → x < s.grid.cols → x < 255
      → Does (sequence (x + 1) [] 0x47) s (at s.state.y x s)
  unfolding control_sequence
  column_does s x low high within column =
      sequence_does law (x + 1) [] 0x47 (omega (arith, column)) tt (omega arith) refl refl s (at s.state.y x s)
      (ap (λ (n : ℕ). without_out (cursor_to s.state.y n s)) (let e : max 1 (x + 1) - 1 ≡ x = omega arith in e)
      ∙ ap without_out (cursor_to_is s.state.y x s low high within))

  -- SM and RM
  pub mode_does : (n : ℕ) (on : Bool) (s : Screen) → n < 256 → Does (mode_text n on) s (with_mode on n s)
  unfolding mode_text control_sequence
  mode_does n true s small = sequence_does law n [] 0x68 small tt (omega arith) refl refl s (with_mode true n s) refl
  mode_does n false s small = sequence_does law n [] 0x6C small tt (omega arith) refl refl s (with_mode false n s) refl

  pub insert_does : (on : Bool) (s : Screen) → Does (mode_text 4 on) s (with_state s (record s.state { insert = on }))
  unfolding with_mode
  insert_does on s = mode_does 4 on s (omega arith)

  pub newline_does : (on : Bool) (s : Screen) → Does (mode_text 20 on) s (with_state s (record s.state { newline = on }))
  unfolding with_mode
  newline_does on s = mode_does 20 on s (omega arith)

  pub display_does : (on : Bool) (s : Screen) → Does (mode_text 3 on) s (with_pen s (record s.state.pen { display = on }))
  unfolding with_mode
  display_does on s = mode_does 3 on s (omega arith)

  pub cursor_keys_does : (on : Bool) (s : Screen) → Does (private_mode_text 1 on) s (with_state s (record s.state { cursor = on }))
  unfolding private_mode_text private_sequence with_private_mode digits
  cursor_keys_does true s = acts law _ (Csi true (1 ∷ []) 0x68) refl s _ refl
  cursor_keys_does false s = acts law _ (Csi true (1 ∷ []) 0x6C) refl s _ refl

  pub reversed_does : (on : Bool) (s : Screen) → Does (private_mode_text 5 on) s (with_state s (record s.state { reverse = on }))
  unfolding private_mode_text private_sequence with_private_mode digits
  reversed_does true s = acts law _ (Csi true (5 ∷ []) 0x68) refl s _ refl
  reversed_does false s = acts law _ (Csi true (5 ∷ []) 0x6C) refl s _ refl

  pub autowrap_does : (on : Bool) (s : Screen) → Does (private_mode_text 7 on) s (with_state s (record s.state { autowrap = on }))
  unfolding private_mode_text private_sequence with_private_mode digits
  autowrap_does true s = acts law _ (Csi true (7 ∷ []) 0x68) refl s _ refl
  autowrap_does false s = acts law _ (Csi true (7 ∷ []) 0x6C) refl s _ refl

  pub repeat_does : (on : Bool) (s : Screen) → Does (private_mode_text 8 on) s (with_state s (record s.state { repeat = on }))
  unfolding private_mode_text private_sequence with_private_mode digits
  repeat_does true s = acts law _ (Csi true (8 ∷ []) 0x68) refl s _ refl
  repeat_does false s = acts law _ (Csi true (8 ∷ []) 0x6C) refl s _ refl

  pub visible_does : (on : Bool) (s : Screen) → Does (private_mode_text 25 on) s (with_state s (record s.state { visible = on }))
  unfolding private_mode_text private_sequence with_private_mode digits
  visible_does true s = acts law _ (Csi true (25 ∷ []) 0x68) refl s _ refl
  visible_does false s = acts law _ (Csi true (25 ∷ []) 0x6C) refl s _ refl

  -- DECOM, which homes the cursor
  pub origin_does : (on : Bool) (s : Screen)
      → Does (private_mode_text 6 on) s (cursor_home (with_state s (record s.state { origin = on })))
  unfolding private_mode_text private_sequence with_private_mode digits
  origin_does true s = acts law _ (Csi true (6 ∷ []) 0x68) refl s _ refl
  origin_does false s = acts law _ (Csi true (6 ∷ []) 0x6C) refl s _ refl

  pub coding_does : (on : Bool) (s : Screen) → Does (coding_text on) s (with_state s (record s.state { utf8 = on }))
  unfolding coding_text escape with_coding
  coding_does true s = acts law _ (Esc 0x25 0x47) refl s _ refl
  coding_does false s = acts law _ (Esc 0x25 0x40) refl s _ refl

  pub keypad_does : (on : Bool) (s : Screen) → Does (keypad_text on) s (with_state s (record s.state { keypad = on }))
  unfolding keypad_text escape plain_escape with_keypad
  keypad_does true s = acts law _ (Esc 0 0x3D) refl s _ refl
  keypad_does false s = acts law _ (Esc 0 0x3E) refl s _ refl

  pub stop_does : (s : Screen) → Does stop_text s (set_stop s)
  unfolding stop_text escape plain_escape
  stop_does s = acts law _ (Esc 0 0x48) refl s _ refl

  pub save_does : (s : Screen) → Does save_text s (save s)
  unfolding save_text escape plain_escape
  save_does s = acts law _ (Esc 0 0x37) refl s _ refl

  pub no_stops_does : (s : Screen)
      → Does (sequence 3 [] 0x67) s (with_state s (record s.state { stops = replicate 255 false }))
  unfolding control_sequence clear_stops
  no_stops_does s = sequence_does law 3 [] 0x67 (omega arith) tt (omega arith) refl refl s _ refl

  pub g0_does : (table : ℕ) (s : Screen) → table < 4 → Does (g0_text table) s (with_state s (record s.state { g0 = table }))
  unfolding g0_text escape with_g0
  g0_does zero s h = acts law _ (Esc 0x28 0x42) refl s _ refl
  g0_does (suc zero) s h = acts law _ (Esc 0x28 0x30) refl s _ refl
  g0_does (suc (suc zero)) s h = acts law _ (Esc 0x28 0x55) refl s _ refl
  g0_does (suc (suc (suc zero))) s h = acts law _ (Esc 0x28 0x4B) refl s _ refl
  g0_does (suc (suc (suc (suc table)))) s h = absurd (omega (arith, h))

  pub g1_does : (table : ℕ) (s : Screen) → table < 4 → Does (g1_text table) s (with_state s (record s.state { g1 = table }))
  unfolding g1_text escape with_g1
  g1_does zero s h = acts law _ (Esc 0x29 0x42) refl s _ refl
  g1_does (suc zero) s h = acts law _ (Esc 0x29 0x30) refl s _ refl
  g1_does (suc (suc zero)) s h = acts law _ (Esc 0x29 0x55) refl s _ refl
  g1_does (suc (suc (suc zero))) s h = acts law _ (Esc 0x29 0x4B) refl s _ refl
  g1_does (suc (suc (suc (suc table)))) s h = absurd (omega (arith, h))

  -- DECSTBM, which homes the cursor
  pub region_does : (top bottom : ℕ) (s : Screen) → top < bottom → bottom < s.grid.rows → s.grid.rows ≤ 255
      → Does (sequence (top + 1) ((bottom + 1) ∷ []) 0x72) s
      (cursor_home (with_state s (record s.state { top = top; bottom = bottom })))
  unfolding control_sequence with_region
  region_does top bottom s order within rows =
      let some : max 1 (top + 1) ≡ top + 1 = omega arith in
      let not_none : (bottom + 1 == 0) ≡ false = ne_eqb (bottom + 1) 0 (λ same. let e : ⊥ = omega (arith, same) in e) in
      let last : cond (bottom + 1 == 0) s.grid.rows (bottom + 1) ≡ bottom + 1 = cond-false _ _ _ not_none in
      let test : (nat_lt (top + 1) (bottom + 1) && nat_le (bottom + 1) s.grid.rows) ≡ true =
      and_from _ _ (lt-ltb (top + 1) (bottom + 1) (omega (arith, order))) (le-leb (bottom + 1) s.grid.rows (omega (arith, within))) in
      sequence_does law (top + 1) ((bottom + 1) ∷ []) 0x72 (omega (arith, order, within, rows)) (omega (arith, within, rows), tt) (omega arith) refl refl s _
      ((λ i. without_out (with_region (some i) (bottom + 1) s))
      ∙ (λ i. without_out (cond (nat_lt (top + 1) (last i) && nat_le (last i) s.grid.rows) (cursor_home (with_state s (record s.state { top = top + 1 - 1; bottom = last i - 1 }))) s))
      ∙ ap without_out (cond-true _ _ _ test)
      ∙ (λ i. without_out (cursor_home (with_state s (record s.state { top = (let e : top + 1 - 1 ≡ top = omega arith in e) i; bottom = (let e : bottom + 1 - 1 ≡ bottom = omega arith in e) i })))))

or-true : (t : Bool) → (t || true) ≡ true
or-true true = refl
or-true false = refl

module _ (law : ControlsAreUnits) where
  -- a control character that is never shown
  control-does : (b : ℕ) → ((m : Mode) → is_control m b ≡ true) → (b == 0x1B) ≡ false → (s t : Screen)
      → control b s ≡ without_out t → Does (b ∷ []) s t
  control-does b is other s t done = record {
    does =
        λ m.
        let now : Mode = mode_of s in
        let one = law (fresh m) now b refl (is now) other in
        let first : ScreenAndOuts = record { screen = s; outs = [] } in (
          now,
          ap (λ (r : Read). make_reached (effects_of screen_effects r first) (rest_after (fresh m) now b)) one.0
              ∙ ap (λ (r : Rest). make_reached (effects_of screen_effects (record { bad = false; got = then.Then.Unit (units.Unit.Control b) }) first) r) one.1
              ∙ ap (λ (d : Effect). make_reached (record { screen = d.screen; outs = [] ++ outs_of_option d.said }) (fresh now)) done,
        );
  }

  -- SI and SO
  pub shift_does : (shift : ℕ) → shift ≤ 1 → (s : Screen) → Does (shift_text shift) s (after_shift shift (shift == 1) s)
  unfolding shift_text control
  shift_does zero h s = control-does 0x0F (λ m. or-true (not m.display)) refl s _ refl
  shift_does (suc zero) h s = control-does 0x0E (λ m. or-true (not m.display)) refl s _ refl
  shift_does (suc (suc shift)) h s = absurd (omega (arith, h))

module _ (sequences : SequencesAreUnits) (controls : ControlsAreUnits) where
  -- G0, G1 and which is in use; no control character is shown then
  pub tables_does : (g0 g1 shift : ℕ) → g0 < 4 → g1 < 4 → shift ≤ 1 → (s : Screen)
      → Does (tables_text g0 g1 shift) s
      (with_state s (record s.state { g0 = g0; g1 = g1; shift = shift; pen = with_mapping s.state.pen false false false }))
  unfolding tables_text after_shift
  tables_does g0 g1 shift h k l s =
      does_then (g0_does sequences g0 s h)
      (does_then (g1_does sequences g1 _ k)
      (does_then (shift_does controls shift l _)
      (display_does sequences false _)))
