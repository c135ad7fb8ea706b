-- The nearest screen, cell by cell.
use Rattle.std.proofs.Common.{◌≡◌, ℕ, suc, arith, ◌<◌, ◌-◌, ◌%◌, min, Bool, true, false, ◌==◌, List, [], ◌∷◌, ◌&&◌, ◌||◌, map, length, zero, ◌≤◌, refl, sym, ap, ◌∙◌}
use Rattle.std.proofs.lemmas.Bool.{and_from, and_parts, cond-true, cond-false, false≢true, lt-ltb, ltb-true, not-true, not_from_false}
use Rattle.std.proofs.lemmas.Bool.Decides.{nat_tests}
use Rattle.std.proofs.lemmas.List.{length-map}
use Rattle.std.proofs.lemmas.Nat.{mod_below}
use Rattle.std.proofs.Math.Nat.{mod-eq_of_lt}
use Rattle.std.specs.List.{list_all}
use Rattle.vt_chars.specs.Utf8.{within}
use Rattle.vt_cells.specs.Width.{is_half}
use Rattle.vt_redraw.specs.Redraw.{IsStored, ScreensRedraw}
use Rattle.vt_canvas.specs.Screen.{Screen}
use Rattle.vt_canvas.specs.declared.screen_state.ScreenState.{ScreenState}
use Rattle.vt_cells.specs.declared.cell.Cell.{Cell}
use Rattle.vt_redraw.specs.Near.{AreNearCells, NearRedraws, IsNearCell, NothingIsLeftOut, is_half_of, is_narrow, is_region, is_wide, near, near_cell, near_row, near_state, replaced}
use Rattle.std.specs.Prelude.{All, if◌then◌else◌, nat_le, nat_lt, not}
use Rattle.vt_cells.specs.Width.{columns}
use Rattle.vt_redraw.specs.Drawable.{are_drawable, is_glyph, is_redrawable, is_row_drawable, is_plain_pair, is_state_drawable}
use mathlib.Core.Logic.{inl, inr}

one : (c : Cell) (t : Bool) → IsNearCell c (if t then c else replaced c)
one c true = inl refl
one c false = inr refl

both : (c next : Cell) (cells : List Cell) (t : Bool)
    → AreNearCells (next ∷ cells) (near_row (next ∷ cells)) → AreNearCells cells (near_row cells)
    → AreNearCells (c ∷ (next ∷ cells))
    (if t then c ∷ (next ∷ near_row cells) else (near_cell c ∷ near_row (next ∷ cells)))
both c next cells true more rest = (inl refl, (inl refl, rest))
both c next cells false more rest = (one c (is_narrow c), more)

pub near_cells : (row : List Cell) → AreNearCells row (near_row row)
near_cells [] = tt
near_cells (c ∷ []) = (one c (is_narrow c), tt)
near_cells (c ∷ (next ∷ cells)) =
    both c next cells (is_wide c && is_half_of c next) (near_cells (next ∷ cells)) (near_cells cells)

-- a character's byte doesn't matter unless a half follows
any_byte : (b : ℕ) (cells : List Cell) → are_drawable false b cells ≡ are_drawable false 0 cells
any_byte b [] = refl
any_byte b (c ∷ cells) = refl

after_narrow : (c : Cell) (cells : List Cell) → is_glyph c.code ≡ true → (columns c.code == 2) ≡ false → c.attr < 256
    → are_drawable false 0 cells ≡ true → are_drawable false 0 (c ∷ cells) ≡ true
after_narrow c cells glyph narrow byte rest =
    and_from (is_glyph c.code && nat_lt c.attr 256) _ (and_from (is_glyph c.code) _ glyph (lt-ltb c.attr 256 byte))
    (ap (λ (t : Bool). are_drawable t c.attr cells) narrow ∙ any_byte c.attr cells ∙ rest)

after_wide : (c next : Cell) (cells : List Cell) → is_glyph c.code ≡ true → (columns c.code == 2) ≡ true → c.attr < 256
    → is_half_of c next ≡ true → are_drawable false 0 cells ≡ true → are_drawable false 0 (c ∷ (next ∷ cells)) ≡ true
after_wide c next cells glyph wide byte half rest =
    and_from (is_glyph c.code && nat_lt c.attr 256) _ (and_from (is_glyph c.code) _ glyph (lt-ltb c.attr 256 byte))
    (ap (λ (t : Bool). are_drawable t c.attr (next ∷ cells)) wide ∙ and_from (is_half_of c next) _ half rest)

only_if : (t a : Bool) → (not (t && a) || a) ≡ true
only_if true true = refl
only_if true false = refl
only_if false true = refl
only_if false false = refl

plain : (n : ℕ) → nat_lt (n % 8) 8 ≡ true
plain n = lt-ltb (n % 8) 8 (mod_below n 8 (omega arith))

on_screen : (n size : ℕ) → 0 < size → nat_lt (min n (size - 1)) size ≡ true
on_screen n size some = lt-ltb (min n (size - 1)) size (omega (arith, some))

has_region : (rows top bottom : ℕ) (t : Bool) → (nat_lt top bottom || rows == 1) ≡ t → 0 < rows
    → (nat_lt (if t then top else 0) (if t then bottom else rows - 1) || rows == 1) ≡ true
has_region rows top bottom true is some = is
has_region rows top bottom false is some = grind (arith, nat_tests, some)

state_drawn : (rows cols : ℕ) (s : ScreenState) → 0 < rows → 0 < cols
    → is_state_drawable rows cols (near_state rows cols s) ≡ true
unfolding is_state_drawable
state_drawn rows cols s some_rows some_cols =
    and_from _ _ (and_from _ _ (and_from _ _ (and_from _ _ (and_from _ _ (and_from _ _ (and_from _ _ (and_from _ _
    (and_from _ _ (plain s.pen.attr.fg) (plain s.pen.attr.bg))
    (and_from _ _ (plain s.saved.attr.fg) (plain s.saved.attr.bg)))
    (plain s.pen.def_fg)) (plain s.pen.def_bg))
    (on_screen s.saved.y rows some_rows)) (on_screen s.saved.x cols some_cols))
    (has_region rows s.top s.bottom (is_region rows s) refl some_rows))
    (only_if s.origin (within (if is_region rows s then s.top else 0) (if is_region rows s then s.bottom else rows - 1) s.y)))
    (only_if s.pen.toggle s.pen.alt)

no_and : (a b : Bool) → ((a && false) && b) ≡ false
no_and true b = refl
no_and false b = refl

-- a drawable row
stays_by : (c next : Cell) (cells : List Cell) (wide : Bool) → (columns c.code == 2) ≡ wide
    → is_glyph c.code ≡ true → are_drawable wide c.attr (next ∷ cells) ≡ true
    → (is_row_drawable (next ∷ cells) ≡ true → near_row (next ∷ cells) ≡ next ∷ cells)
    → (is_row_drawable cells ≡ true → near_row cells ≡ cells)
    → near_row (c ∷ (next ∷ cells)) ≡ c ∷ (next ∷ cells)
stays_by c next cells true is glyph more one_on two_on =
    let parts = and_parts (is_half next && next.attr == c.attr) _ more in
    cond-true (is_wide c && is_half_of c next) _ _
    (and_from (is_wide c) _ (and_from (is_glyph c.code) _ glyph is) parts.0)
    ∙ ap (λ xs. c ∷ (next ∷ xs)) (two_on parts.1)
stays_by c next cells false is glyph more one_on two_on =
    cond-false (is_wide c && is_half_of c next) _ _ (ap (λ t. (is_glyph c.code && t) && is_half_of c next) is ∙ no_and (is_glyph c.code) (is_half_of c next))
    ∙ ap (λ xs. near_cell c ∷ xs) (one_on (sym (any_byte c.attr (next ∷ cells)) ∙ more))
    ∙ ap (λ x. x ∷ (next ∷ cells)) (cond-true (is_narrow c) _ _ (and_from (is_glyph c.code) _ glyph (not_from_false (columns c.code == 2) is)))

last_stays : (c : Cell) (wide : Bool) → (columns c.code == 2) ≡ wide → is_glyph c.code ≡ true → not wide ≡ true
    → near_row (c ∷ []) ≡ c ∷ []
last_stays c true is glyph none = absurd (false≢true none)
last_stays c false is glyph none =
    ap (λ x. x ∷ []) (cond-true (is_narrow c) _ _ (and_from (is_glyph c.code) _ glyph (not_from_false (columns c.code == 2) is)))

pub row_stays : (row : List Cell) → is_row_drawable row ≡ true → near_row row ≡ row
row_stays [] is = refl
row_stays (c ∷ []) is =
    let parts = and_parts (is_glyph c.code && nat_lt c.attr 256) _ is in
    let first = and_parts (is_glyph c.code) (nat_lt c.attr 256) parts.0 in
    last_stays c (columns c.code == 2) refl first.0 parts.1
row_stays (c ∷ (next ∷ cells)) is =
    let parts = and_parts (is_glyph c.code && nat_lt c.attr 256) _ is in
    let first = and_parts (is_glyph c.code) (nat_lt c.attr 256) parts.0 in
    stays_by c next cells (columns c.code == 2) refl first.0 parts.1 (row_stays (next ∷ cells)) (row_stays cells)

module _ (replacement : columns 0xFFFD ≡ 1) where
  replacement_prints : is_glyph 0xFFFD ≡ true
  unfolding is_glyph
  replacement_prints = ap (λ (n : ℕ). nat_le 1 n) replacement

  narrow_drawn : (c : Cell) (cells : List Cell) (t : Bool) → is_narrow c ≡ t → c.attr < 256
      → are_drawable false 0 cells ≡ true → are_drawable false 0 ((if t then c else replaced c) ∷ cells) ≡ true
  narrow_drawn c cells true is byte rest =
      let parts = and_parts (is_glyph c.code) (not (columns c.code == 2)) is in
      after_narrow c cells parts.0 (not-true (columns c.code == 2) parts.1) byte rest
  narrow_drawn c cells false is byte rest =
      after_narrow (replaced c) cells replacement_prints (ap (λ (n : ℕ). n == 2) replacement) byte rest

  drawn_by : (c next : Cell) (cells : List Cell) (t : Bool) → (is_wide c && is_half_of c next) ≡ t → c.attr < 256
      → are_drawable false 0 (near_row (next ∷ cells)) ≡ true → are_drawable false 0 (near_row cells) ≡ true
      → are_drawable false 0
      (if t then c ∷ (next ∷ near_row cells) else (near_cell c ∷ near_row (next ∷ cells)))
      ≡ true
  drawn_by c next cells true is byte more rest =
      let parts = and_parts (is_wide c) (is_half_of c next) is in
      let wide = and_parts (is_glyph c.code) (columns c.code == 2) parts.0 in
      after_wide c next (near_row cells) wide.0 wide.1 byte parts.1 rest
  drawn_by c next cells false is byte more rest = narrow_drawn c (near_row (next ∷ cells)) (is_narrow c) refl byte more

  pub near_drawn : (row : List Cell) → All (λ (c : Cell). c.attr < 256) row → are_drawable false 0 (near_row row) ≡ true
  near_drawn [] bytes = refl
  near_drawn (c ∷ []) bytes = narrow_drawn c [] (is_narrow c) refl (bytes 0 c (omega arith)) refl
  near_drawn (c ∷ (next ∷ cells)) bytes =
      drawn_by c next cells (is_wide c && is_half_of c next) refl (bytes 0 c (omega arith))
      (near_drawn (next ∷ cells) (λ k d h. bytes (suc k) d (omega (arith, h))))
      (near_drawn cells (λ k d h. bytes (suc (suc k)) d (omega (arith, h))))

  rows_drawn : (rows : List (List Cell)) → All (λ (row : List Cell). All (λ (c : Cell). c.attr < 256) row) rows
      → list_all is_row_drawable (map near_row rows) ≡ true
  rows_drawn [] bytes = refl
  rows_drawn (row ∷ rows) bytes =
      and_from (is_row_drawable (near_row row)) _ (near_drawn row (bytes 0 row (omega arith)))
      (rows_drawn rows (λ k d h. bytes (suc k) d (omega (arith, h))))

  pub near_is_drawn : (s : Screen) → All (λ (row : List Cell). All (λ (c : Cell). c.attr < 256) row) s.grid.cells
      → 0 < s.grid.rows → 0 < s.grid.cols → is_redrawable (near s) ≡ true
  unfolding is_redrawable
  near_is_drawn s bytes rows cols =
      and_from (list_all is_row_drawable (map near_row s.grid.cells)) _ (rows_drawn s.grid.cells bytes)
      (state_drawn s.grid.rows s.grid.cols s.state rows cols)

-- rows keep their length
length_by : (c next : Cell) (cells : List Cell) (t : Bool)
    → length (near_row (next ∷ cells)) ≡ suc (length cells) → length (near_row cells) ≡ length cells
    → length (if t then c ∷ (next ∷ near_row cells) else (near_cell c ∷ near_row (next ∷ cells)))
    ≡ suc (suc (length cells))
length_by c next cells true one_on two_on = ap (λ n. suc (suc n)) two_on
length_by c next cells false one_on two_on = ap suc one_on

near_length : (row : List Cell) → length (near_row row) ≡ length row
near_length [] = refl
near_length (c ∷ []) = refl
near_length (c ∷ (next ∷ cells)) =
    length_by c next cells (is_wide c && is_half_of c next) (near_length (next ∷ cells)) (near_length cells)

all_wide : (cols : ℕ) (rows : List (List Cell)) → All (λ (row : List Cell). length row ≡ cols) rows
    → All (λ (row : List Cell). length row ≡ cols) (map near_row rows)
all_wide cols [] wide k d h = absurd (omega (arith, h))
all_wide cols (row ∷ rows) wide zero d h = near_length row ∙ wide 0 row (omega arith)
all_wide cols (row ∷ rows) wide (suc j) d h =
    all_wide cols rows (λ k e below. wide (suc k) e (omega (arith, below))) j d (omega (arith, h))

ordered : (t : Bool) (top bottom rows : ℕ) → top ≤ bottom → bottom < rows
    → ((if t then top else 0) ≤ (if t then bottom else rows - 1)) × ((if t then bottom else rows - 1) < rows)
ordered true top bottom rows order below = (order, below)
ordered false top bottom rows order below = (omega arith, omega (arith, below))

pub near_stored : (s : Screen) → IsStored s → IsStored (near s)
near_stored s stored =
    let region = ordered (is_region s.grid.rows s.state) s.state.top s.state.bottom s.grid.rows stored.whole.order stored.whole.region in
    record {
      whole =
          record {
            full =
                record {
                  tall = length-map s.grid.cells near_row ∙ stored.whole.full.tall;
                  wide = all_wide s.grid.cols s.grid.cells stored.whole.full.wide;
                };
            row = stored.whole.row;
            column = stored.whole.column;
            wrapped = stored.whole.wrapped;
            order = region.0;
            region = region.1;
            tables = stored.whole.tables;
            invoked = stored.whole.invoked;
            saved_tables = stored.whole.saved_tables;
            saved_shift = stored.whole.saved_shift;
            user = stored.whole.user;
          };
      rows = stored.rows;
      cols = stored.cols;
      stops = stored.stops;
      colours = stored.colours;
      parts = stored.parts;
      look = stored.look;
    }

pub near_redraws : columns 0xFFFD ≡ 1 → ScreensRedraw → NearRedraws
near_redraws replacement draws s other stored bytes whole size =
    draws (near s) other (near_stored s stored) whole size
    (near_is_drawn replacement s bytes (omega (arith, stored.whole.row)) (omega (arith, stored.whole.column)))

rows_stay : (rows : List (List Cell)) → list_all is_row_drawable rows ≡ true → map near_row rows ≡ rows
rows_stay [] all = refl
rows_stay (row ∷ rows) all =
    let parts = and_parts (is_row_drawable row) (list_all is_row_drawable rows) all in
    λ i. row_stays row parts.0 i ∷ rows_stay rows parts.1 i

plain_stays : (n : ℕ) → nat_lt n 8 ≡ true → n % 8 ≡ n
plain_stays n below = mod-eq_of_lt (ltb-true n 8 below)

kept_by : (o w : Bool) → (not o || w) ≡ true → (o && w) ≡ o
kept_by true w is = is
kept_by false w is = refl

state_stays : (rows cols : ℕ) (s : ScreenState) → is_state_drawable rows cols s ≡ true → near_state rows cols s ≡ s
unfolding is_state_drawable
state_stays rows cols s is =
    let a1 = is_plain_pair s.pen.attr in
    let a2 = is_plain_pair s.saved.attr in
    let a3 = nat_lt s.pen.def_fg 8 in
    let a4 = nat_lt s.pen.def_bg 8 in
    let a5 = nat_lt s.saved.y rows in
    let a6 = nat_lt s.saved.x cols in
    let a7 = nat_lt s.top s.bottom || rows == 1 in
    let a8 = not s.origin || within s.top s.bottom s.y in
    let a9 = not s.pen.toggle || s.pen.alt in
    let p9 = and_parts (a1 && a2 && a3 && a4 && a5 && a6 && a7 && a8) a9 is in
    let p8 = and_parts (a1 && a2 && a3 && a4 && a5 && a6 && a7) a8 p9.0 in
    let p7 = and_parts (a1 && a2 && a3 && a4 && a5 && a6) a7 p8.0 in
    let p6 = and_parts (a1 && a2 && a3 && a4 && a5) a6 p7.0 in
    let p5 = and_parts (a1 && a2 && a3 && a4) a5 p6.0 in
    let p4 = and_parts (a1 && a2 && a3) a4 p5.0 in
    let p3 = and_parts (a1 && a2) a3 p4.0 in
    let p2 = and_parts a1 a2 p3.0 in
    let pen = and_parts (nat_lt s.pen.attr.fg 8) (nat_lt s.pen.attr.bg 8) p2.0 in
    let saved = and_parts (nat_lt s.saved.attr.fg 8) (nat_lt s.saved.attr.bg 8) p2.1 in
    let y : min s.saved.y (rows - 1) ≡ s.saved.y = omega (arith, ltb-true s.saved.y rows p5.1) in
    let x : min s.saved.x (cols - 1) ≡ s.saved.x = omega (arith, ltb-true s.saved.x cols p6.1) in
    let origin : (s.origin && within (if a7 then s.top else 0) (if a7 then s.bottom else rows - 1) s.y) ≡ s.origin =
    ap (λ (t : Bool). s.origin && within (if t then s.top else 0) (if t then s.bottom else rows - 1) s.y) p7.1
    ∙ kept_by s.origin (within s.top s.bottom s.y) p8.1 in
    λ i.
    record s {
      pen =
          record s.pen {
            attr = record s.pen.attr { fg = plain_stays s.pen.attr.fg pen.0 i; bg = plain_stays s.pen.attr.bg pen.1 i };
            def_fg = plain_stays s.pen.def_fg p3.1 i;
            def_bg = plain_stays s.pen.def_bg p4.1 i;
            toggle = kept_by s.pen.toggle s.pen.alt p9.1 i;
          };
      saved =
          record s.saved {
            attr = record s.saved.attr { fg = plain_stays s.saved.attr.fg saved.0 i; bg = plain_stays s.saved.attr.bg saved.1 i };
            y = y i;
            x = x i;
          };
      top = cond-true a7 s.top 0 p7.1 i;
      bottom = cond-true a7 s.bottom (rows - 1) p7.1 i;
      origin = origin i;
    }

pub screen_stays : (s : Screen) → is_redrawable s ≡ true → near s ≡ s
unfolding is_redrawable
screen_stays s is =
    let parts = and_parts (list_all is_row_drawable s.grid.cells) (is_state_drawable s.grid.rows s.grid.cols s.state) is in
    λ i.
    record {
      grid = record s.grid { cells = rows_stay s.grid.cells parts.0 i };
      state = state_stays s.grid.rows s.grid.cols s.state parts.1 i;
    }

-- what is left out
rest_is : (o w t a : Bool) → ((not o || w) && (not t || a)) ≡ not (o && not w || t && not a)
rest_is false w false a = refl
rest_is false w true true = refl
rest_is false w true false = refl
rest_is true false t a = refl
rest_is true true false a = refl
rest_is true true true true = refl
rest_is true true true false = refl

parts_are : (inside : Bool → Bool) (rows a1 a2 a3 a4 a5 a6 a7 o t a : Bool)
    → (rows && (a1 && a2 && a3 && a4 && a5 && a6 && a7 && (not o || inside true) && (not t || a)))
    ≡ not
    (not rows
    || not (a1 && a2 && a3 && a4)
    || not (a5 && a6)
    || not a7
    || (o && not (inside a7))
    || (t && not a))
parts_are inside false a1 a2 a3 a4 a5 a6 a7 o t a = refl
parts_are inside true false a2 a3 a4 a5 a6 a7 o t a = refl
parts_are inside true true false a3 a4 a5 a6 a7 o t a = refl
parts_are inside true true true false a4 a5 a6 a7 o t a = refl
parts_are inside true true true true false a5 a6 a7 o t a = refl
parts_are inside true true true true true false a6 a7 o t a = refl
parts_are inside true true true true true true false a7 o t a = refl
parts_are inside true true true true true true true false o t a = refl
parts_are inside true true true true true true true true o t a = rest_is o (inside true) t a

pub nothing_is_left_out : NothingIsLeftOut
unfolding is_redrawable is_state_drawable
nothing_is_left_out s =
    let v = s.state in
    parts_are
    (λ (region : Bool). within (if region then v.top else 0) (if region then v.bottom else s.grid.rows - 1) v.y)
    (list_all is_row_drawable s.grid.cells) (is_plain_pair v.pen.attr) (is_plain_pair v.saved.attr)
    (nat_lt v.pen.def_fg 8) (nat_lt v.pen.def_bg 8) (nat_lt v.saved.y s.grid.rows) (nat_lt v.saved.x s.grid.cols)
    (is_region s.grid.rows v) v.origin v.pen.toggle v.pen.alt
