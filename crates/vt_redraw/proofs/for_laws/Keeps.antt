-- Effects that leave the tab stops and do not ask for them.
use Rattle.std.proofs.Common.{◌≡◌, ℕ, ◌==◌, ◌&&◌, ◌||◌, nat_le, nat_lt, Bool, true, false, List, [], ◌∷◌, refl, ap, ◌∙◌, cond}
use Rattle.std.specs.Prelude.{if◌then◌else◌}
use Rattle.vt_cells.specs.Colours.{Rgb}
use Rattle.vt_redraw.specs.Behind.{with_stops}
use Rattle.vt_canvas.specs.Cursor.{at_column, linefeed, cursor_to, newline, cursor_to_in_region, region_down, region_up, reverse_linefeed}
use Rattle.vt_canvas.specs.Erasing.{cells_inserted, delete_lines, erase_display, erase_line, in_region, insert_lines, rows_erased, without_pending_wrap}
use Rattle.vt_canvas.specs.Printing.{codes_drawn, lacks_room, with_gap, print, with_cells_at_cursor, with_character, character_of_byte, after_wrap}
use Rattle.vt_canvas.specs.Screen.{Screen}
use Rattle.vt_canvas.specs.Settings.{each, with_coding, with_colour, with_mode, with_private_mode, with_region}

-- what leaves the tab stops and doesn't ask for them
pub record Keeps (f : Screen → Screen) : Type 0 where
  pub commutes : (st : List Bool) (s : Screen) → f (with_stops st s) ≡ with_stops st (f s)
  pub stops : (s : Screen) → (f s).state.stops ≡ s.state.stops
  pub cols : (s : Screen) → (f s).grid.cols ≡ s.grid.cols

same_if : (b : Bool) (st : List Bool) (s t : Screen) → cond b (with_stops st s) (with_stops st t) ≡ with_stops st (cond b s t)
same_if true st s t = refl
same_if false st s t = refl

stops_if : (b : Bool) (x y : Screen) (stops : List Bool) → x.state.stops ≡ stops → y.state.stops ≡ stops → (cond b x y).state.stops ≡ stops
stops_if true x y stops e f = e
stops_if false x y stops e f = f

cols_if : (b : Bool) (x y : Screen) (n : ℕ) → x.grid.cols ≡ n → y.grid.cols ≡ n → (cond b x y).grid.cols ≡ n
cols_if true x y n e f = e
cols_if false x y n e f = f

-- a test that the tab stops don't decide
pub keeps_if : (b : Screen → Bool) (f g : Screen → Screen) → ((st : List Bool) (s : Screen) → b (with_stops st s) ≡ b s)
    → Keeps f → Keeps g → Keeps (λ s. if b s then f s else g s)
keeps_if b f g same x y = record {
  commutes =
      λ st s.
      (λ i. cond (same st s i) (x.commutes st s i) (y.commutes st s i)) ∙ same_if (b s) st (f s) (g s);
  stops = λ s. stops_if (b s) (f s) (g s) s.state.stops (x.stops s) (y.stops s);
  cols = λ s. cols_if (b s) (f s) (g s) s.grid.cols (x.cols s) (y.cols s);
}

pub keeps_then : (f g : Screen → Screen) → Keeps f → Keeps g → Keeps (λ s. g (f s))
keeps_then f g x y = record {
  commutes = λ st s. ap g (x.commutes st s) ∙ y.commutes st (f s);
  stops = λ s. y.stops (f s) ∙ x.stops s;
  cols = λ s. y.cols (f s) ∙ x.cols s;
}

-- what keeps them by computing
abbrev Facts : Type 0
Facts = Screen × List Bool × ℕ

abbrev pub Computes : (Screen → Screen) → Type 0
Computes f = (st : List Bool) (s : Screen)
    → ◌≡◌ {A = Facts} (f (with_stops st s), (f s).state.stops, (f s).grid.cols) (with_stops st (f s), s.state.stops, s.grid.cols)

pub plain : (f : Screen → Screen) → Computes f → Keeps f
plain f same = record {
  commutes = λ st s. ap (λ (x : Facts). x.0) (same st s);
  stops = λ s. ap (λ (x : Facts). x.1) (same s.state.stops s);
  cols = λ s. ap (λ (x : Facts). x.2) (same s.state.stops s);
}

pub keeps_nothing : Keeps (λ s. s)
keeps_nothing = plain _ (λ st s. refl)

pub column_keeps : (x : ℕ) → Keeps (at_column x)
column_keeps x = plain _ (λ st s. refl)

pub linefeed_keeps : Keeps linefeed
linefeed_keeps = keeps_if (λ s. s.state.y == s.state.bottom) region_up _ (λ st s. refl) (plain _ (λ st s. refl)) (plain _ (λ st s. refl))

pub reverse_keeps : Keeps reverse_linefeed
reverse_keeps = keeps_if (λ s. s.state.y == s.state.top) region_down _ (λ st s. refl) (plain _ (λ st s. refl)) (plain _ (λ st s. refl))

pub newline_keeps : Keeps newline
newline_keeps =
    keeps_then (λ s. if s.state.newline then at_column 0 s else s) linefeed
    (keeps_if (λ s. s.state.newline) (at_column 0) (λ s. s) (λ st s. refl) (column_keeps 0) keeps_nothing) linefeed_keeps

pub next_keeps : Keeps (λ s. linefeed (at_column 0 s))
next_keeps = keeps_then (at_column 0) linefeed (column_keeps 0) linefeed_keeps

pub after_wrap_keeps : (w : ℕ) → Keeps (after_wrap w)
after_wrap_keeps w =
    keeps_if (λ s. s.state.autowrap && (s.state.wrap || lacks_room w s)) _ _ (λ st s. refl) next_keeps
    (keeps_if (lacks_room w) _ (λ s. s) (λ st s. refl) (plain _ (λ st s. refl)) keeps_nothing)

pub with_gap_keeps : (w : ℕ) → Keeps (with_gap w)
with_gap_keeps w = keeps_if (λ s. s.state.insert) (cells_inserted w) (λ s. s) (λ st s. refl) (plain _ (λ st s. refl)) keeps_nothing

pub down_set_keeps : (w code : ℕ) → Keeps (with_character w code)
down_set_keeps w code =
    keeps_then (λ s. with_gap w (after_wrap w s)) (with_cells_at_cursor (codes_drawn w code))
    (keeps_then (after_wrap w) (with_gap w) (after_wrap_keeps w) (with_gap_keeps w)) (plain _ (λ st s. refl))

pub print_keeps : (w code : ℕ) → Keeps (print w code)
unfolding print
print_keeps w code =
    keeps_if (λ s. w == 0) (λ s. s) _ (λ st s. refl) keeps_nothing
    (keeps_if (λ s. w == 2 && s.grid.cols == 1) (with_character 1 0xFFFD) (with_character w code) (λ st s. refl) (down_set_keeps 1 0xFFFD) (down_set_keeps w code))

character_of_byte_same : (b : ℕ) (st : List Bool) (s : Screen) → character_of_byte b (with_stops st s) ≡ character_of_byte b s
unfolding character_of_byte
character_of_byte_same b st s = refl

pub byte_keeps : (b : ℕ) → Keeps (λ s. print 1 (character_of_byte b s) s)
byte_keeps b = record {
  commutes =
      λ st s.
      let one = print_keeps 1 (character_of_byte b s) in
      ap (λ (code : ℕ). print 1 code (with_stops st s)) (character_of_byte_same b st s) ∙ one.commutes st s;
  stops = λ s. let one = print_keeps 1 (character_of_byte b s) in one.stops s;
  cols = λ s. let one = print_keeps 1 (character_of_byte b s) in one.cols s;
}

pub ed_keeps : (n : ℕ) → Keeps (erase_display n)
unfolding erase_display rows_erased
ed_keeps n =
    keeps_if (λ s. n == 0) _ _ (λ st s. refl) (plain _ (λ st s. refl))
    (keeps_if (λ s. n == 1) _ _ (λ st s. refl) (plain _ (λ st s. refl))
    (keeps_if (λ s. n == 2 || n == 3) _ (λ s. s) (λ st s. refl) (plain _ (λ st s. refl)) keeps_nothing))

pub el_keeps : (n : ℕ) → Keeps (erase_line n)
unfolding erase_line
el_keeps n =
    keeps_if (λ s. n == 0) _ _ (λ st s. refl) (plain _ (λ st s. refl))
    (keeps_if (λ s. n == 1) _ _ (λ st s. refl) (plain _ (λ st s. refl))
    (keeps_if (λ s. n == 2) _ (λ s. s) (λ st s. refl) (plain _ (λ st s. refl)) keeps_nothing))

pub without_pending_wrap_keeps : Keeps (without_pending_wrap)
without_pending_wrap_keeps = plain _ (λ st s. refl)

pub il_keeps : (n : ℕ) → Keeps (insert_lines n)
unfolding insert_lines
il_keeps n =
    keeps_then _ without_pending_wrap (keeps_if in_region _ (λ s. s) (λ st s. refl) (plain _ (λ st s. refl)) keeps_nothing) without_pending_wrap_keeps

pub dl_keeps : (n : ℕ) → Keeps (delete_lines n)
unfolding delete_lines
dl_keeps n =
    keeps_then _ without_pending_wrap (keeps_if in_region _ (λ s. s) (λ st s. refl) (plain _ (λ st s. refl)) keeps_nothing) without_pending_wrap_keeps

pub coding_keeps : (last : ℕ) → Keeps (with_coding last)
unfolding with_coding
coding_keeps last =
    keeps_if (λ s. last == 0x40) _ _ (λ st s. refl) (plain _ (λ st s. refl))
    (keeps_if (λ s. last == 0x47) _ _ (λ st s. refl) (plain _ (λ st s. refl))
    (keeps_if (λ s. last == 0x38) _ (λ s. s) (λ st s. refl) (plain _ (λ st s. refl)) keeps_nothing))

pub mode_keeps : (on : Bool) (n : ℕ) → Keeps (with_mode on n)
unfolding with_mode
mode_keeps on n =
    keeps_if (λ s. n == 3) _ _ (λ st s. refl) (plain _ (λ st s. refl))
    (keeps_if (λ s. n == 4) _ _ (λ st s. refl) (plain _ (λ st s. refl))
    (keeps_if (λ s. n == 20) _ (λ s. s) (λ st s. refl) (plain _ (λ st s. refl)) keeps_nothing))

pub private_keeps : (on : Bool) (n : ℕ) → Keeps (with_private_mode on n)
unfolding with_private_mode cursor_to_in_region cursor_to
private_keeps on n =
    keeps_if (λ s. n == 1) _ _ (λ st s. refl) (plain _ (λ st s. refl))
    (keeps_if (λ s. n == 5) _ _ (λ st s. refl) (plain _ (λ st s. refl))
    (keeps_if (λ s. n == 6) _ _ (λ st s. refl) (plain _ (λ st s. refl))
    (keeps_if (λ s. n == 7) _ _ (λ st s. refl) (plain _ (λ st s. refl))
    (keeps_if (λ s. n == 8) _ _ (λ st s. refl) (plain _ (λ st s. refl))
    (keeps_if (λ s. n == 25) _ (λ s. s) (λ st s. refl) (plain _ (λ st s. refl)) keeps_nothing)))))

pub each_keeps : (f : ℕ → Screen → Screen) → ((n : ℕ) → Keeps (f n)) → (numbers : List ℕ) → Keeps (each f numbers)
each_keeps f one [] = keeps_nothing
each_keeps f one (n ∷ numbers) = keeps_then (f n) (each f numbers) (one n) (each_keeps f one numbers)

pub region_keeps : (t b : ℕ) → Keeps (with_region t b)
unfolding with_region cursor_to_in_region cursor_to
region_keeps t b =
    keeps_if (λ s. nat_lt t (if b == 0 then s.grid.rows else b) && nat_le (if b == 0 then s.grid.rows else b) s.grid.rows) _ (λ s. s)
    (λ st s. refl) (plain _ (λ st s. refl)) keeps_nothing

pub colour_keeps : (n : ℕ) (rgb : Rgb) → Keeps (with_colour n rgb)
unfolding with_colour
colour_keeps n rgb = keeps_if (λ s. nat_lt n 16) _ (λ s. s) (λ st s. refl) (plain _ (λ st s. refl)) keeps_nothing
