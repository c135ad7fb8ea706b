-- Text leaves the pen's colours below 8, changes a byte's high bit in the null mapping alone, and makes no region of
-- one row if the screen has more.
use Rattle.std.proofs.Common.{◌≡◌, ◌⊎◌, ℕ, zero, suc, ◌+◌, ◌-◌, ◌==◌, ◌&&◌, ◌||◌, ◌<◌, ◌≤◌, Bool, true, false, List, [], ◌∷◌, nat_lt, nat_le, refl, cond, arith, inl, inr, ltb-true}
use Rattle.std.proofs.lemmas.Bool.{and_parts, false≢true}
use Rattle.vt_cells.specs.Colours.{Rgb}
use Rattle.vt_redraw.proofs.for_laws.PlainPens.{IsPlain, PlainPen, sgr-keeps}
use Rattle.vt_canvas.specs.Cursor.{at_column, cursor_to, cursor_to_in_region, linefeed, newline, reverse_linefeed, tab}
use Rattle.vt_canvas.specs.Effect.{control, control_sequence, count_of, escape, number_at, plain_escape, private_sequence}
use Rattle.vt_canvas.specs.Erasing.{cells_inserted, delete_characters, delete_lines, erase_characters, erase_display, erase_line, in_region, insert_characters, insert_lines, rows_erased}
use Rattle.vt_canvas.specs.Printing.{after_wrap, codes_drawn, lacks_room, print, with_cells_at_cursor, with_character, with_gap}
use Rattle.vt_canvas.specs.Saying.{Effect, console_setting, device_report, lights, status_report, without_out}
use Rattle.vt_canvas.specs.Screen.{Screen}
use Rattle.vt_canvas.specs.Settings.{after_sgr, after_shift, alignment_pattern, clear_stops, each, reset, restore, save, set_stop, with_coding, with_colour, with_g0, with_g1, with_keypad, with_mode, with_private_mode, with_region, with_start_palette}

-- the region has two rows, or the screen has one
abbrev pub HasRows : ℕ → ℕ → ℕ → Type 0
HasRows top bottom rows = (top < bottom) ⊎ (rows ≡ 1)

unfoldable pub Pens : Screen → Type 0
Pens s = PlainPen s.state.pen × HasRows s.state.top s.state.bottom s.grid.rows

-- a choice of two screens
either : (test : Bool) (s t : Screen) → Pens s → Pens t → Pens (cond test s t)
either true s t first second = first
either false s t first second = second

either-if : (test : Bool) (s t : Screen) → (test ≡ true → Pens s) → (test ≡ false → Pens t) → Pens (cond test s t)
either-if true s t first second = first refl
either-if false s t first second = second refl

either-done : (test : Bool) (s t : Effect) → Pens s.screen → Pens t.screen → Pens (cond test s t).screen
either-done true s t first second = first
either-done false s t first second = second

-- what moves the cursor, scrolls and erases
moved : (y x : ℕ) (s : Screen) → Pens s → Pens (cursor_to y x s)
unfolding cursor_to Pens
moved y x s h = h

placed : (y x : ℕ) (s : Screen) → Pens s → Pens (cursor_to_in_region y x s)
unfolding cursor_to_in_region cursor_to Pens
placed y x s h = h

in-column : (x : ℕ) (s : Screen) → Pens s → Pens (at_column x s)
unfolding Pens
in-column x s h = h

line-fed : (s : Screen) → Pens s → Pens (linefeed s)
unfolding Pens
line-fed s h = either (s.state.y == s.state.bottom) _ _ h h

line-fed-back : (s : Screen) → Pens s → Pens (reverse_linefeed s)
unfolding Pens
line-fed-back s h = either (s.state.y == s.state.top) _ _ h h

new-line : (s : Screen) → Pens s → Pens (newline s)
new-line s h =
    line-fed (cond s.state.newline (at_column 0 s) s) (either s.state.newline (at_column 0 s) s (in-column 0 s h) h)

tabbed : (s : Screen) → Pens s → Pens (tab s)
unfolding tab Pens
tabbed s h = h

display-erased : (which : ℕ) (s : Screen) → Pens s → Pens (erase_display which s)
unfolding erase_display rows_erased Pens
display-erased which s h = either (which == 0) _ _ h (either (which == 1) _ _ h (either (which == 2 || which == 3) _ s h h))

row-erased : (which : ℕ) (s : Screen) → Pens s → Pens (erase_line which s)
unfolding erase_line Pens
row-erased which s h = either (which == 0) _ _ h (either (which == 1) _ _ h (either (which == 2) _ s h h))

characters-erased : (n : ℕ) (s : Screen) → Pens s → Pens (erase_characters n s)
unfolding erase_characters Pens
characters-erased n s h = h

characters-inserted : (n : ℕ) (s : Screen) → Pens s → Pens (insert_characters n s)
unfolding insert_characters Pens
characters-inserted n s h = h

characters-deleted : (n : ℕ) (s : Screen) → Pens s → Pens (delete_characters n s)
unfolding delete_characters Pens
characters-deleted n s h = h

lines-inserted : (n : ℕ) (s : Screen) → Pens s → Pens (insert_lines n s)
unfolding insert_lines Pens
lines-inserted n s h = either (in_region s) _ s h h

lines-deleted : (n : ℕ) (s : Screen) → Pens s → Pens (delete_lines n s)
unfolding delete_lines Pens
lines-deleted n s h = either (in_region s) _ s h h

-- printing
wrapped : (w : ℕ) (s : Screen) → Pens s → Pens (after_wrap w s)
wrapped w s h =
    either (s.state.autowrap && (s.state.wrap || lacks_room w s)) (linefeed (at_column 0 s)) _ (line-fed (at_column 0 s) (in-column 0 s h))
    (either (lacks_room w s) (at_column (s.grid.cols - w) s) s (in-column (s.grid.cols - w) s h) h)

gap : (w : ℕ) (s : Screen) → Pens s → Pens (cells_inserted w s)
unfolding Pens
gap w s h = h

put : (codes : List ℕ) (s : Screen) → Pens s → Pens (with_cells_at_cursor codes s)
unfolding Pens
put codes s h = h

set-down : (w code : ℕ) (s : Screen) → Pens s → Pens (with_character w code s)
set-down w code s h =
    let there = after_wrap w s in
    let there_is : Pens there = wrapped w s h in
    put (codes_drawn w code) (with_gap w there)
    (either there.state.insert (cells_inserted w there) there (gap w there there_is) there_is)

printed : (w code : ℕ) (s : Screen) → Pens s → Pens (print w code s)
unfolding print
printed w code s h =
    either (w == 0) s _ h
    (either (w == 2 && s.grid.cols == 1) (with_character 1 0xFFFD s) (with_character w code s) (set-down 1 0xFFFD s h) (set-down w code s h))

-- what changes the state alone
shifted : (shift : ℕ) (display : Bool) (s : Screen) → Pens s → Pens (after_shift shift display s)
unfolding after_shift Pens PlainPen
shifted shift display s h = ((h.0.0, h.0.1, h.0.2, λ o. absurd (false≢true o)), h.1)

coded : (last : ℕ) (s : Screen) → Pens s → Pens (with_coding last s)
unfolding with_coding Pens
coded last s h = either (last == 0x40) _ _ h (either (last == 0x47) _ _ h (either (last == 0x38) _ s h h))

first-set : (last : ℕ) (s : Screen) → Pens s → Pens (with_g0 last s)
unfolding with_g0 Pens
first-set last s h = h

second-set : (last : ℕ) (s : Screen) → Pens s → Pens (with_g1 last s)
unfolding with_g1 Pens
second-set last s h = h

stop-set : (s : Screen) → Pens s → Pens (set_stop s)
unfolding set_stop Pens
stop-set s h = h

stops-cleared : (which : ℕ) (s : Screen) → Pens s → Pens (clear_stops which s)
unfolding clear_stops Pens
stops-cleared which s h = either (which == 0) _ _ h (either (which == 3) _ s h h)

keypad-set : (on : Bool) (s : Screen) → Pens s → Pens (with_keypad on s)
unfolding with_keypad Pens
keypad-set on s h = h

each-keeps : (f : ℕ → Screen → Screen) → ((n : ℕ) (s : Screen) → Pens s → Pens (f n s))
    → (numbers : List ℕ) (s : Screen) → Pens s → Pens (each f numbers s)
each-keeps f keeps [] s h = h
each-keeps f keeps (n ∷ numbers) s h = each-keeps f keeps numbers (f n s) (keeps n s h)

mode-set : (on : Bool) (n : ℕ) (s : Screen) → Pens s → Pens (with_mode on n s)
unfolding with_mode Pens PlainPen
mode-set on n s h = either (n == 3) _ _ h (either (n == 4) _ _ h (either (n == 20) _ s h h))

private-mode-set : (on : Bool) (n : ℕ) (s : Screen) → Pens s → Pens (with_private_mode on n s)
unfolding with_private_mode cursor_to_in_region cursor_to Pens
private-mode-set on n s h =
    either (n == 1) _ _ h
    (either (n == 5) _ _ h
    (either (n == 6) _ _ h
    (either (n == 7) _ _ h
    (either (n == 8) _ _ h
    (either (n == 25) _ s h h)))))

region-set : (t b : ℕ) (s : Screen) → 1 ≤ t → Pens s → Pens (with_region t b s)
unfolding with_region cursor_to_in_region cursor_to Pens
region-set t b s some h =
    let last = cond (b == 0) s.grid.rows b in
    either-if (nat_lt t last && nat_le last s.grid.rows) _ s
    (λ e.
    let low = ltb-true t last (and_parts (nat_lt t last) (nat_le last s.grid.rows) e).0 in
    (h.0, inl (omega (arith, low, some))))
    (λ _. h)

pen-set : (params : List ℕ) (s : Screen) → Pens s → Pens (after_sgr params s)
unfolding after_sgr Pens
pen-set params s h = (sgr-keeps params s.state.pen h.0, h.1)

saved-now : (s : Screen) → Pens s → Pens (save s)
unfolding save Pens
saved-now s h = h

restored : (s : Screen) → IsPlain s.state.saved.attr → Pens s → Pens (restore s)
unfolding restore cursor_to Pens PlainPen
restored s plain_saved h = ((plain_saved, h.0.1, h.0.2, h.0.3), h.1)

-- the region of a screen that was made anew
pub whole-region : (rows : ℕ) → 0 < rows → HasRows 0 (rows - 1) rows
whole-region zero some = absurd (let no : ⊥ = omega (arith, some) in no)
whole-region (suc zero) some = inr refl
whole-region (suc (suc n)) some = inl (omega arith)

made-anew : (s : Screen) → 0 < s.grid.rows → Pens s → Pens (reset s)
unfolding reset Pens PlainPen
made-anew s some h =
    (((omega arith, omega arith), h.0.1, h.0.2, λ o. absurd (false≢true o)), whole-region s.grid.rows some)

aligned : (s : Screen) → Pens s → Pens (alignment_pattern s)
unfolding alignment_pattern Pens
aligned s h = h

pub coloured : (n : ℕ) (rgb : Rgb) (s : Screen) → Pens s → Pens (with_colour n rgb s)
unfolding with_colour Pens
coloured n rgb s h = either (nat_lt n 16) _ s h h

pub colours-reset : (s : Screen) → Pens s → Pens (with_start_palette s)
unfolding with_start_palette Pens
colours-reset s h = h

-- what has side effects
device : (which : ℕ) (s : Screen) → Pens s → Pens (device_report which s).screen
unfolding device_report
device which s h = either-done (which == 0) _ (without_out s) h h

status : (which : ℕ) (s : Screen) → Pens s → Pens (status_report which s).screen
unfolding status_report
status which s h = either-done (which == 5) _ _ h (either-done (which == 6) _ (without_out s) h h)

lit : (which : ℕ) (s : Screen) → Pens s → Pens (lights which s).screen
unfolding lights
lit which s h =
    either-done (which == 0) _ _ h
    (either-done (which == 1) _ _ h (either-done (which == 2) _ _ h (either-done (which == 3) _ (without_out s) h h)))

setting : (which value : ℕ) (s : Screen) → Pens s → Pens (console_setting which value s).screen
unfolding console_setting Pens PlainPen
setting which value s h =
    either-done (which == 1) _ _ (either (nat_lt value 16) _ s h h)
    (either-done (which == 2) _ _ (either (nat_lt value 16) _ s h h)
    (either-done (which == 8) _ _ ((h.0.0, h.0.0.0, h.0.0.1, h.0.3), h.1)
    (either-done (which == 12) _ _ (either-done (nat_le 1 value && nat_le value 63) _ (without_out s) h h)
    (either-done (which == 15) _ (without_out s) h h))))

-- the table
pub control-pens : (code : ℕ) (s : Screen) → Pens s → Pens (control code s).screen
unfolding control
control-pens code s h =
    either-done (code == 0x07) _ _ h
    (either-done (code == 0x08) _ _ (in-column (s.state.x - 1) s h)
    (either-done (code == 0x09) _ _ (tabbed s h)
    (either-done (code == 0x0A) _ _ (new-line s h)
    (either-done (code == 0x0B) _ _ (new-line s h)
    (either-done (code == 0x0C) _ _ (new-line s h)
    (either-done (code == 0x0D) _ _ (in-column 0 s h)
    (either-done (code == 0x0E) _ _ (shifted 1 true s h)
    (either-done (code == 0x0F) _ (without_out s) (shifted 0 false s h) h))))))))

plain-escape-pens : (last : ℕ) (s : Screen) → 0 < s.grid.rows → IsPlain s.state.saved.attr → Pens s → Pens (plain_escape last s).screen
unfolding plain_escape
plain-escape-pens last s some plain_saved h =
    either-done (last == 0x63) _ _ (made-anew s some h)
    (either-done (last == 0x44) _ _ (line-fed s h)
    (either-done (last == 0x45) _ _ (line-fed (at_column 0 s) (in-column 0 s h))
    (either-done (last == 0x48) _ _ (stop-set s h)
    (either-done (last == 0x4D) _ _ (line-fed-back s h)
    (either-done (last == 0x5A) _ _ (device 0 s h)
    (either-done (last == 0x37) _ _ (saved-now s h)
    (either-done (last == 0x38) _ _ (restored s plain_saved h)
    (either-done (last == 0x3E) _ _ (keypad-set false s h)
    (either-done (last == 0x3D) _ (without_out s) (keypad-set true s h) h)))))))))

pub escape-pens : (mid last : ℕ) (s : Screen) → 0 < s.grid.rows → IsPlain s.state.saved.attr → Pens s → Pens (escape mid last s).screen
unfolding escape
escape-pens mid last s some plain_saved h =
    either-done (mid == 0) _ _ (plain-escape-pens last s some plain_saved h)
    (either-done (mid == 0x25) _ _ (coded last s h)
    (either-done (mid == 0x23) _ _ (either (last == 0x38) (alignment_pattern s) s (aligned s h) h)
    (either-done (mid == 0x28) _ _ (first-set last s h)
    (either-done (mid == 0x29) _ (without_out s) (second-set last s h) h))))

pub private-pens : (params : List ℕ) (last : ℕ) (s : Screen) → Pens s → Pens (private_sequence params last s).screen
unfolding private_sequence
private-pens params last s h =
    either-done (last == 0x68) _ _ (each-keeps (with_private_mode true) (private-mode-set true) params s h)
    (either-done (last == 0x6C) _ (without_out s) (each-keeps (with_private_mode false) (private-mode-set false) params s h) h)

pub sequence-pens : (params : List ℕ) (last : ℕ) (s : Screen) → IsPlain s.state.saved.attr → Pens s → Pens (control_sequence params last s).screen
unfolding control_sequence
sequence-pens params last s plain_saved h =
    let n = count_of params in
    let first = number_at params 0 in
    let second = number_at params 1 in
    let y = s.state.y in
    let x = s.state.x in
    either-done (last == 0x40) _ _ (characters-inserted n s h)
    (either-done (last == 0x41) _ _ (moved (y - n) x s h)
    (either-done (last == 0x42) _ _ (moved (y + n) x s h)
    (either-done (last == 0x43) _ _ (moved y (x + n) s h)
    (either-done (last == 0x44) _ _ (moved y (x - n) s h)
    (either-done (last == 0x45) _ _ (moved (y + n) 0 s h)
    (either-done (last == 0x46) _ _ (moved (y - n) 0 s h)
    (either-done (last == 0x47) _ _ (moved y (n - 1) s h)
    (either-done (last == 0x48) _ _ (placed (n - 1) (second - 1) s h)
    (either-done (last == 0x4A) _ _ (display-erased first s h)
    (either-done (last == 0x4B) _ _ (row-erased first s h)
    (either-done (last == 0x4C) _ _ (lines-inserted n s h)
    (either-done (last == 0x4D) _ _ (lines-deleted n s h)
    (either-done (last == 0x50) _ _ (characters-deleted n s h)
    (either-done (last == 0x58) _ _ (characters-erased n s h)
    (either-done (last == 0x61) _ _ (moved y (x + n) s h)
    (either-done (last == 0x63) _ _ (device first s h)
    (either-done (last == 0x64) _ _ (placed (n - 1) x s h)
    (either-done (last == 0x65) _ _ (moved (y + n) x s h)
    (either-done (last == 0x66) _ _ (placed (n - 1) (second - 1) s h)
    (either-done (last == 0x67) _ _ (stops-cleared first s h)
    (either-done (last == 0x68) _ _ (each-keeps (with_mode true) (mode-set true) params s h)
    (either-done (last == 0x6C) _ _ (each-keeps (with_mode false) (mode-set false) params s h)
    (either-done (last == 0x6D) _ _ (pen-set params s h)
    (either-done (last == 0x6E) _ _ (status first s h)
    (either-done (last == 0x71) _ _ (lit first s h)
    (either-done (last == 0x72) _ _ (region-set n second s (omega arith) h)
    (either-done (last == 0x73) _ _ (saved-now s h)
    (either-done (last == 0x75) _ _ (restored s plain_saved h)
    (either-done (last == 0x60) _ _ (moved y (n - 1) s h)
    (either-done (last == 0x5D) _ (without_out s) (setting first second s h) h))))))))))))))))))))))))))))))

pub printed-pens : (w code : ℕ) (s : Screen) → Pens s → Pens (print w code s)
printed-pens w code s h = printed w code s h
