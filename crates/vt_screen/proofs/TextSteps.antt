-- One printable character on a screen in the start state.
use Rattle.std.proofs.Common.{◌≡◌, ℕ, ◌+◌, ◌-◌, ◌<◌, ◌==◌, min, nat_lt, Bool, true, false, List, [], ◌∷◌, ◌++◌, length, take, drop, replicate, inl, inr, refl, sym, subst, ap, ◌∙◌, cond, arith}
use Rattle.std.proofs.lemmas.List.{append-nil, drop_all, length-append, length-drop, length-replicate, take_all}
use Rattle.std.proofs.lemmas.List.Elements.{All-append, All-cons, All-drop, All-nil}
use Rattle.std.proofs.lemmas.Bool.{cases_lt, cond-true, cond-false, ne_eqb, eq-eqb, le-ltb, lt-ltb}
use Rattle.std.proofs.lemmas.Bool.Decides.{nat_tests}
use Rattle.vt_cells.specs.Width.{LowTakeOne, columns}
use Rattle.vt_cells.specs.declared.cell.Cell.{Cell}
use Rattle.vt_grid.specs.Grid.{IsFull, GridView, row_at, scrolled_up, with_cell, with_run}
use Rattle.vt_grid.specs.Halves.{with_cells_at, IsNarrow}
use Rattle.vt_grid.specs.Laws.{RunOfMore, RunOfNone}
use Rattle.vt_grid.proofs.Narrow.{parted_between_same, scrolled_up_narrow}
use Rattle.vt_canvas.specs.Cursor.{at_column, at_row, linefeed, region_up}
use Rattle.vt_canvas.specs.Printing.{with_gap, print, print_character, with_cells_at_cursor}
use Rattle.vt_canvas.specs.Screen.{Screen, erased_byte, printed_byte, start_blank, start_state}
use Rattle.vt_screen.specs.TextRows.{start_cell, state_at}
use Rattle.vt_units.specs.Bytes.{is_printable}

-- a screen in the start state, but for the cursor
abbrev pub plain : GridView → ℕ → ℕ → Bool → Screen
plain g y x wrap = record { grid = g; state = record (start_state g.rows) { x = x; y = y; wrap = wrap } }

-- the cursor after so many columns of row y
abbrev pub at : GridView → ℕ → ℕ → Screen
at g y count = record { grid = g; state = state_at g.rows g.cols y count }

pub printable_one : LowTakeOne → (b : ℕ) → is_printable b ≡ true → columns b ≡ 1
printable_one low b is =
    low b (grind (arith, nat_tests, is)) (λ same. let e : ⊥ = grind (arith, nat_tests, is, same) in e)

-- a cell that is drawn where no cell is a half
with_cells_at_one : RunOfNone → RunOfMore → (g : GridView) (y x : ℕ) (c : Cell) → IsNarrow g → x < length (row_at g y)
    → with_cells_at g y x (c ∷ []) ≡ with_cell g y x c
with_cells_at_one none more g y x c narrow within =
    ap (λ (t : GridView). with_run t y x (c ∷ [])) (sym (parted_between_same g y x (x + 1) narrow))
    ∙ more g y x c [] within
    ∙ none (with_cell g y x c) y (x + 1)

put_one : RunOfNone → RunOfMore → (b : ℕ) (g : GridView) (y x : ℕ) → IsNarrow g → x < length (row_at g y) → x < g.cols
    → with_cells_at_cursor (b ∷ []) (plain g y x false) ≡ at (with_cell g y x (start_cell b)) y (x + 1)
unfolding printed_byte
put_one none more b g y x narrow within in_row =
    let grid : with_cells_at g y x (start_cell b ∷ []) ≡ with_cell g y x (start_cell b) =
    with_cells_at_one none more g y x (start_cell b) narrow within in
    let column : cond (nat_lt (x + 1) g.cols) (x + 1) (g.cols - 1) ≡ min (x + 1) (g.cols - 1) = elim (cases_lt (x + 1) g.cols) [
      | inl has ↦ cond-true _ _ _ (lt-ltb (x + 1) g.cols has) ∙ omega (arith, has)
      | inr end ↦ cond-false _ _ _ (le-ltb (x + 1) g.cols end) ∙ omega (arith, end, in_row)
    ] in
    let wrap : cond (nat_lt (x + 1) g.cols) false true ≡ (x + 1 == g.cols) = elim (cases_lt (x + 1) g.cols) [
      | inl has ↦
          cond-true _ _ _ (lt-ltb (x + 1) g.cols has)
          ∙ sym (ne_eqb (x + 1) g.cols (λ same. let e : ⊥ = omega (arith, has, same) in e))
      | inr end ↦
          cond-false _ _ _ (le-ltb (x + 1) g.cols end)
          ∙ sym (eq-eqb (x + 1) g.cols (omega (arith, end, in_row)))
    ] in
    λ i. record { grid = grid i; state = record (start_state g.rows) { x = column i; y = y; wrap = wrap i } }

-- no wrap is pending
print_here : (b : ℕ) (g : GridView) (y x : ℕ) → x < g.cols
    → print 1 b (plain g y x false) ≡ with_cells_at_cursor (b ∷ []) (plain g y x false)
unfolding print
print_here b g y x in_row =
    let s : Screen = plain g y x false in
    let room : nat_lt g.cols (x + 1) ≡ false = le-ltb g.cols (x + 1) (omega (arith, in_row)) in
    ap (λ (t : Bool). with_cells_at_cursor (b ∷ []) (with_gap 1 (cond t (linefeed (at_column 0 s)) (cond t (at_column (g.cols - 1) s) s)))) room

-- a wrap is pending, and a row is below
print_wrap : (b : ℕ) (g : GridView) (y x : ℕ) → y + 1 < g.rows
    → print 1 b (plain g y x true) ≡ with_cells_at_cursor (b ∷ []) (plain g (y + 1) 0 false)
unfolding print
print_wrap b g y x below =
    let s : Screen = plain g y 0 false in
    let inside : (y == g.rows - 1) ≡ false = ne_eqb y (g.rows - 1) (λ same. let e : ⊥ = omega (arith, below, same) in e) in
    let next : min (y + 1) (g.rows - 1) ≡ y + 1 = omega (arith, below) in
    ap (λ (t : Bool). with_cells_at_cursor (b ∷ []) (with_gap 1 (cond t (region_up s) (at_row (min (y + 1) (g.rows - 1)) s)))) inside
    ∙ ap (λ (n : ℕ). with_cells_at_cursor (b ∷ []) (plain g n 0 false)) next

-- the rows move up by one, and a blank one comes in
abbrev pub turned : GridView → GridView
turned g = record g { cells = drop 1 g.cells ++ replicate g.cols start_blank ∷ [] }

pub scrolled_is : (g : GridView) → IsFull g → 0 < g.rows → scrolled_up g 0 (g.rows - 1) 1 start_blank ≡ turned g
scrolled_is g full some =
    let fresh : List Cell = replicate g.cols start_blank in
    let height : g.rows - 1 + 1 - 0 ≡ g.rows = omega (arith, some) in
    let one : min 1 g.rows ≡ 1 = omega (arith, some) in
    let all : take g.rows g.cells ≡ g.cells = take_all g.rows g.cells (omega (arith, full.tall)) in
    let nothing : drop (g.rows - 1 + 1) g.cells ≡ [] = drop_all (g.rows - 1 + 1) g.cells (omega (arith, full.tall, some)) in
    let cells : (scrolled_up g 0 (g.rows - 1) 1 start_blank).cells ≡ (turned g).cells =
    ap (λ (h : ℕ). (drop (min 1 h) (take h g.cells) ++ replicate (min 1 h) fresh) ++ drop (g.rows - 1 + 1) g.cells) height
    ∙ ap (λ (n : ℕ). (drop n (take g.rows g.cells) ++ replicate n fresh) ++ drop (g.rows - 1 + 1) g.cells) one
    ∙ (λ i. (drop 1 (all i) ++ fresh ∷ []) ++ nothing i)
    ∙ append-nil (drop 1 g.cells ++ fresh ∷ []) in
    ap (λ (rows : List (List Cell)). record g { cells = rows }) cells

-- a wrap is pending in the last row
print_scroll : (b : ℕ) (g : GridView) (y x : ℕ) → IsFull g → y + 1 ≡ g.rows
    → print 1 b (plain g y x true) ≡ with_cells_at_cursor (b ∷ []) (plain (turned g) y 0 false)
unfolding print erased_byte
print_scroll b g y x full last =
    let s : Screen = plain g y 0 false in
    let at_end : (y == g.rows - 1) ≡ true = eq-eqb y (g.rows - 1) (omega (arith, last)) in
    ap (λ (t : Bool). with_cells_at_cursor (b ∷ []) (with_gap 1 (cond t (region_up s) (at_row (min (y + 1) (g.rows - 1)) s)))) at_end
    ∙ ap (λ (t : GridView). with_cells_at_cursor (b ∷ []) (record { grid = t; state = s.state })) (scrolled_is g full (omega (arith, last)))

pub full_turned : (g : GridView) → IsFull g → 0 < g.rows → IsFull (turned g)
full_turned g full some =
    let fresh : List Cell = replicate g.cols start_blank in
    let wide_is = λ (r : List Cell). length r ≡ g.cols in
    record {
      tall = length-append (drop 1 g.cells) (fresh ∷ []) ∙ omega (arith, length-drop 1 g.cells, full.tall, some);
      wide =
          All-append wide_is (drop 1 g.cells) (fresh ∷ []) (All-drop wide_is 1 g.cells full.wide)
          (All-cons wide_is fresh [] (length-replicate g.cols start_blank) (All-nil wide_is));
    }

pub narrow_turned : (g : GridView) → IsFull g → 0 < g.rows → IsNarrow g → IsNarrow (turned g)
narrow_turned g full some narrow =
    subst IsNarrow (scrolled_is g full some) (scrolled_up_narrow g 0 (g.rows - 1) 1 start_blank narrow refl)

row_long : (g : GridView) (y : ℕ) → IsFull g → y < g.rows → length (row_at g y) ≡ g.cols
row_long g y full in_rows = full.wide y [] (omega (arith, in_rows, full.tall))

module _ (none : RunOfNone) (more : RunOfMore) (low : LowTakeOne) where
  -- a character in the cursor's row
  pub step_here : (b : ℕ) (g : GridView) (y count : ℕ) → is_printable b ≡ true → IsFull g → IsNarrow g
      → y < g.rows → count < g.cols
      → print_character b (at g y count) ≡ at (with_cell g y count (start_cell b)) y (count + 1)
  step_here b g y count is full narrow in_rows in_row =
      let column : min count (g.cols - 1) ≡ count = omega (arith, in_row) in
      let wrap : (count == g.cols) ≡ false = ne_eqb count g.cols (λ same. let e : ⊥ = omega (arith, in_row, same) in e) in
      (λ i. print (printable_one low b is i) b (plain g y (column i) (wrap i)))
      ∙ print_here b g y count in_row
      ∙ put_one none more b g y count narrow (omega (arith, in_row, row_long g y full in_rows)) in_row

  -- a character in the next row
  pub step_below : (b : ℕ) (g : GridView) (y : ℕ) → is_printable b ≡ true → IsFull g → IsNarrow g
      → y + 1 < g.rows → 0 < g.cols
      → print_character b (at g y g.cols) ≡ at (with_cell g (y + 1) 0 (start_cell b)) (y + 1) (0 + 1)
  step_below b g y is full narrow below some =
      let wrap : (g.cols == g.cols) ≡ true = eq-eqb g.cols g.cols refl in
      (λ i. print (printable_one low b is i) b (plain g y (min g.cols (g.cols - 1)) (wrap i)))
      ∙ print_wrap b g y (min g.cols (g.cols - 1)) below
      ∙ put_one none more b g (y + 1) 0 narrow (omega (arith, some, row_long g (y + 1) full below)) some

  -- a character in the last row, after a scroll
  pub step_scroll : (b : ℕ) (g : GridView) (y : ℕ) → is_printable b ≡ true → IsFull g → IsNarrow g
      → y + 1 ≡ g.rows → 0 < g.cols
      → print_character b (at g y g.cols) ≡ at (with_cell (turned g) y 0 (start_cell b)) y (0 + 1)
  step_scroll b g y is full narrow last some =
      let some_rows : 0 < g.rows = omega (arith, last) in
      let wrap : (g.cols == g.cols) ≡ true = eq-eqb g.cols g.cols refl in
      let long : length (row_at (turned g) y) ≡ g.cols = row_long (turned g) y (full_turned g full some_rows) (omega (arith, last)) in
      (λ i. print (printable_one low b is i) b (plain g y (min g.cols (g.cols - 1)) (wrap i)))
      ∙ print_scroll b g y (min g.cols (g.cols - 1)) full last
      ∙ put_one none more b (turned g) y 0 (narrow_turned g full some_rows narrow) (omega (arith, some, long)) some
