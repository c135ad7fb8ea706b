-- A byte that scrolls nothing: the cursor's next place, and the rows that stay.
use Rattle.std.proofs.Common.{◌≡◌, ℕ, ◌⊎◌, ◌+◌, ◌-◌, ◌<◌, ◌≤◌, ◌==◌, ◌&&◌, ◌||◌, min, nat_lt, not, Bool, true, false, List, [], ◌∷◌, inl, inr, refl, sym, subst, ap, ◌∙◌, cond, arith, ltb-true, ltb-false}
use Rattle.std.proofs.lemmas.Bool.{and_parts, le-ltb, ne_eqb}
use Rattle.std.proofs.lemmas.List.{get_or-set_other}
use Rattle.vt_cells.specs.Width.{LowTakeOne}
use Rattle.vt_cells.specs.declared.cell.Cell.{Cell}
use Rattle.vt_grid.specs.Grid.{GridView, row_at, with_row}
use Rattle.vt_grid.specs.Halves.{split_wide_at, split_wide_between}
use Rattle.vt_screen.proofs.TextSteps.{printable_one}
use Rattle.vt_canvas.specs.Cursor.{at_column, at_row, linefeed, region_up}
use Rattle.vt_canvas.specs.Effect.{control, effect}
use Rattle.vt_canvas.specs.Erasing.{cells_inserted}
use Rattle.vt_canvas.specs.Printing.{after_wrap, lacks_room, print, with_cells_at_cursor, with_gap}
use Rattle.vt_screen.specs.Run.{ScreenAndOuts, screen_effects, then_done}
use Rattle.vt_canvas.specs.Screen.{Screen, mode_of}
use Rattle.vt_screen.specs.ChangedRows.{AreSameOutside, IsAt, Moves, after_cell}
use Rattle.vt_screen.specs.declared.cursor_step.CursorState.{CursorState}
use Rattle.vt_units.specs.Bytes.{is_control, is_never_shown, is_printable}
use Rattle.vt_units.specs.Laws.{ControlsAreUnits, PrintablesAreCharacters}
use Rattle.vt_units.specs.Rest.{fresh}
use Rattle.vt_units.specs.Run.{Reached, effects_of, make_reached, step}
use Rattle.vt_units.specs.declared.unit.Unit.TheVariants.{Char, Control}

-- a row is set, and another one read
other_row : (g : GridView) (y k : ℕ) (row : List Cell) → (k < y) ⊎ (y < k) → row_at (with_row g y row) k ≡ row_at g k
other_row g y k row (inl above) = get_or-set_other g.cells y k row [] (λ same. let e : ⊥ = omega (arith, above, same) in e)
other_row g y k row (inr under) = get_or-set_other g.cells y k row [] (λ same. let e : ⊥ = omega (arith, under, same) in e)

-- an effect takes the cursor from one place to another one, and changes at most the rows between them
abbrev Carries : ℕ → ℕ → CursorState → CursorState → (Screen → Screen) → Type 0
Carries cols bottom at next f =
    (s : Screen) → IsAt cols bottom at s
    → IsAt cols bottom next (f s) × AreSameOutside at.y next.y s (f s)

-- the cursor in another column of its row
abbrev pub in_column : ℕ → CursorState → CursorState
in_column x at = record { x = x; y = at.y; wrap = false }

to_column : (cols bottom : ℕ) (at : CursorState) (x : ℕ) (s : Screen) → x < cols → IsAt cols bottom at s
    → IsAt cols bottom (in_column x at) (at_column x s)
to_column cols bottom at x s within here = record {
  decoding = here.decoding;
  wraps = here.wraps;
  straight = here.straight;
  width = here.width;
  last = here.last;
  region = here.region;
  within = within;
  column = refl;
  row = here.row;
  pending = refl;
}

-- the cursor in the row below
abbrev pub below : CursorState → CursorState
below at = record { x = at.x; y = at.y + 1; wrap = false }

feeds : (cols bottom : ℕ) (at : CursorState) (s : Screen) → at.y < bottom → IsAt cols bottom at s
    → linefeed s ≡ at_row (at.y + 1) s
feeds cols bottom at s above here =
    let inside : (s.state.y == s.state.bottom) ≡ false =
    ne_eqb s.state.y s.state.bottom (λ same. let e : ⊥ = omega (arith, above, same, here.row, here.last) in e) in
    let next : min (s.state.y + 1) (s.grid.rows - 1) ≡ at.y + 1 = omega (arith, above, here.row, here.region) in
    ap (λ (t : Bool). cond t (region_up s) (at_row (min (s.state.y + 1) (s.grid.rows - 1)) s)) inside
    ∙ ap (λ (y : ℕ). at_row y s) next

to_next_row : (cols bottom : ℕ) (at : CursorState) (s : Screen) → at.y < bottom → IsAt cols bottom at s
    → IsAt cols bottom (below at) (linefeed s) × ((k : ℕ) → row_at (linefeed s).grid k ≡ row_at s.grid k)
to_next_row cols bottom at s above here =
    subst (λ (t : Screen). IsAt cols bottom (below at) t × ((k : ℕ) → row_at t.grid k ≡ row_at s.grid k))
    (sym (feeds cols bottom at s above here)) (
      record {
        decoding = here.decoding;
        wraps = here.wraps;
        straight = here.straight;
        width = here.width;
        last = here.last;
        region = here.region;
        within = here.within;
        column = here.column;
        row = refl;
        pending = refl;
      },
      λ k. refl,
    )

-- blanks come in at the cursor
gap_at : (insert : Bool) (cols bottom : ℕ) (at : CursorState) (s : Screen) → IsAt cols bottom at s
    → IsAt cols bottom at (cond insert (cells_inserted 1 s) s)
    × AreSameOutside at.y at.y s (cond insert (cells_inserted 1 s) s)
gap_at false cols bottom at s here = (here, λ k outside. refl)
gap_at true cols bottom at s here = (
  record {
    decoding = here.decoding;
    wraps = here.wraps;
    straight = here.straight;
    width = here.width;
    last = here.last;
    region = here.region;
    within = here.within;
    column = here.column;
    row = here.row;
    pending = here.pending;
  },
  λ k outside.
      let away : (k < s.state.y) ⊎ (s.state.y < k) = subst (λ (y : ℕ). (k < y) ⊎ (y < k)) (sym here.row) outside in
      let x : ℕ = s.state.x in
      let end : ℕ = s.grid.cols - min 1 (s.grid.cols - x) in
      other_row (split_wide_between s.grid s.state.y x end) s.state.y k _ away
      ∙ other_row (split_wide_at s.grid s.state.y x) s.state.y k _ away
      ∙ other_row s.grid s.state.y k _ away,
)

-- a cell is drawn at the cursor
cell_at : (has_next : Bool) (code cols bottom : ℕ) (at : CursorState) (s : Screen)
    → nat_lt (s.state.x + 1) s.grid.cols ≡ has_next → IsAt cols bottom at s
    → IsAt cols bottom (record { x = cond has_next (at.x + 1) at.x; y = at.y; wrap = not has_next }) (with_cells_at_cursor (code ∷ []) s)
cell_at true code cols bottom at s test here =
    let room : s.state.x + 1 < s.grid.cols = ltb-true (s.state.x + 1) s.grid.cols test in
    record {
      decoding = here.decoding;
      wraps = here.wraps;
      straight = here.straight;
      width = here.width;
      last = here.last;
      region = here.region;
      within = omega (arith, room, here.width, here.column);
      column = ap (λ (t : Bool). cond t (s.state.x + 1) (s.grid.cols - 1)) test ∙ ap (λ (n : ℕ). n + 1) here.column;
      row = here.row;
      pending = ap (λ (t : Bool). cond t false s.state.autowrap) test;
    }
cell_at false code cols bottom at s test here =
    let none : s.grid.cols ≤ s.state.x + 1 = ltb-false (s.state.x + 1) s.grid.cols test in
    record {
      decoding = here.decoding;
      wraps = here.wraps;
      straight = here.straight;
      width = here.width;
      last = here.last;
      region = here.region;
      within = here.within;
      column =
          ap (λ (t : Bool). cond t (s.state.x + 1) (s.grid.cols - 1)) test
          ∙ omega (arith, none, here.width, here.column, here.within);
      row = here.row;
      pending = ap (λ (t : Bool). cond t false s.state.autowrap) test ∙ here.wraps;
    }

cell_rows : (code cols bottom : ℕ) (at : CursorState) (s : Screen) → IsAt cols bottom at s
    → AreSameOutside at.y at.y s (with_cells_at_cursor (code ∷ []) s)
cell_rows code cols bottom at s here = λ k outside.
    let away : (k < s.state.y) ⊎ (s.state.y < k) = subst (λ (y : ℕ). (k < y) ⊎ (y < k)) (sym here.row) outside in
    let x : ℕ = s.state.x in
    other_row (split_wide_between s.grid s.state.y x (x + 1)) s.state.y k _ away
    ∙ other_row (split_wide_at s.grid s.state.y x) s.state.y k _ away
    ∙ other_row s.grid s.state.y k _ away

-- a character of one column, where no wrap is pending
drawn : (code cols bottom : ℕ) (at : CursorState) → Carries cols bottom at (after_cell cols at) (λ s. with_cells_at_cursor (code ∷ []) (with_gap 1 s))
drawn code cols bottom at s here =
    let gap = gap_at s.state.insert cols bottom at s here in
    let wide : Screen = with_gap 1 s in
    let test : nat_lt (wide.state.x + 1) wide.grid.cols ≡ nat_lt (at.x + 1) cols =
    λ i. nat_lt (gap.0.column i + 1) (gap.0.width i) in (
      cell_at (nat_lt (at.x + 1) cols) code cols bottom at wide test gap.0,
      λ k outside. cell_rows code cols bottom at wide gap.0 k outside ∙ gap.1 k outside,
    )

stays : (cols bottom : ℕ) (at : CursorState) (s : Screen) → at.wrap ≡ false → IsAt cols bottom at s → after_wrap 1 s ≡ s
stays cols bottom at s none here =
    let room : lacks_room 1 s ≡ false = le-ltb s.grid.cols (s.state.x + 1) (omega (arith, here.width, here.column, here.within)) in
    λ i. cond (here.wraps i && ((here.pending ∙ none) i || room i)) (linefeed (at_column 0 s)) (cond (room i) (at_column (s.grid.cols - 1) s) s)

wraps_down : (cols bottom : ℕ) (at : CursorState) (s : Screen) → at.wrap ≡ true → IsAt cols bottom at s
    → after_wrap 1 s ≡ linefeed (at_column 0 s)
wraps_down cols bottom at s some here =
    λ i. cond (here.wraps i && ((here.pending ∙ some) i || lacks_room 1 s)) (linefeed (at_column 0 s)) (cond (lacks_room 1 s) (at_column (s.grid.cols - 1) s) s)

printed_here : (code cols bottom : ℕ) (at : CursorState) → at.wrap ≡ false
    → Carries cols bottom at (after_cell cols at) (print 1 code)
unfolding print
printed_here code cols bottom at none s here =
    subst (λ (t : Screen). IsAt cols bottom (after_cell cols at) (with_cells_at_cursor (code ∷ []) (with_gap 1 t))
    × AreSameOutside at.y at.y s (with_cells_at_cursor (code ∷ []) (with_gap 1 t)))
    (sym (stays cols bottom at s none here)) (drawn code cols bottom at s here)

printed_below : (code cols bottom : ℕ) (at : CursorState) → at.wrap ≡ true → at.y < bottom
    → Carries cols bottom at (after_cell cols (below (in_column 0 at))) (print 1 code)
unfolding print
printed_below code cols bottom at some above s here =
    let left : IsAt cols bottom (in_column 0 at) (at_column 0 s) =
    to_column cols bottom at 0 s (omega (arith, here.within)) here in
    let down = to_next_row cols bottom (in_column 0 at) (at_column 0 s) above left in
    let last : Screen = linefeed (at_column 0 s) in
    let done = drawn code cols bottom (below (in_column 0 at)) last down.0 in
    subst (λ (t : Screen). IsAt cols bottom (after_cell cols (below (in_column 0 at))) (with_cells_at_cursor (code ∷ []) (with_gap 1 t))
    × AreSameOutside at.y (at.y + 1) s (with_cells_at_cursor (code ∷ []) (with_gap 1 t)))
    (sym (wraps_down cols bottom at s some here)) (
      done.0,
      λ k outside. done.1 k (narrower at.y k outside) ∙ down.1 k,
    )
  where
    narrower : (y k : ℕ) → (k < y) ⊎ (y + 1 < k) → (k < y + 1) ⊎ (y + 1 < k)
    narrower y k (inl above) = inl (omega (arith, above))
    narrower y k (inr under) = inr under

-- the read of one byte
module _ (low : LowTakeOne) (characters : PrintablesAreCharacters) (controls : ControlsAreUnits) where
  of_character : (cols bottom b : ℕ) (at next : CursorState) → is_printable b ≡ true → at.y ≤ next.y
      → Carries cols bottom at next (print 1 b) → Moves cols bottom b at next
  of_character cols bottom b at next is order carries = (
    order,
    λ m empty here.
        let s : Screen = m.state.screen in
        let read = characters m.rest (mode_of s) b empty here.decoding is in
        let made : step screen_effects b m ≡ make_reached (then_done (effect (Char b)) m.state) (fresh (mode_of s)) =
        λ i. make_reached (effects_of screen_effects (read.0 i) m.state) (read.1 i) in
        let done =
        subst (λ (t : Screen). IsAt cols bottom next t × AreSameOutside at.y next.y s t)
        (ap (λ (w : ℕ). print w b s) (sym (printable_one low b is))) (carries s here) in
        subst (λ (n : Reached ScreenAndOuts). (n.rest.text ≡ []) × IsAt cols bottom next n.state.screen
        × AreSameOutside at.y next.y s n.state.screen) (sym made) (refl, done.0, done.1),
  )

  of_control : (cols bottom b : ℕ) (at next : CursorState) → nat_lt b 0x20 ≡ true → (b == 0x1B) ≡ false → at.y ≤ next.y
      → Carries cols bottom at next (λ s. (control b s).screen) → Moves cols bottom b at next
  of_control cols bottom b at next is other order carries = (
    order,
    λ m empty here.
        let s : Screen = m.state.screen in
        let shown = (and_parts s.state.utf8 (not s.state.pen.display) here.decoding).1 in
        let is_one : is_control (mode_of s) b ≡ true = λ i. is i && (shown i || is_never_shown b) in
        let read = controls m.rest (mode_of s) b empty is_one other in
        let made : step screen_effects b m ≡ make_reached (then_done (effect (Control b)) m.state) (fresh (mode_of s)) =
        λ i. make_reached (effects_of screen_effects (read.0 i) m.state) (read.1 i) in
        let done = carries s here in
        subst (λ (n : Reached ScreenAndOuts). (n.rest.text ≡ []) × IsAt cols bottom next n.state.screen
        × AreSameOutside at.y next.y s n.state.screen) (sym made) (refl, done.0, done.1),
  )

  pub character_here : (cols bottom b : ℕ) (at : CursorState) → is_printable b ≡ true → at.wrap ≡ false
      → Moves cols bottom b at (after_cell cols at)
  character_here cols bottom b at is none =
      of_character cols bottom b at (after_cell cols at) is (omega arith) (printed_here b cols bottom at none)

  pub character_below : (cols bottom b : ℕ) (at : CursorState) → is_printable b ≡ true → at.wrap ≡ true → at.y < bottom
      → Moves cols bottom b at (after_cell cols (below (in_column 0 at)))
  character_below cols bottom b at is some above =
      of_character cols bottom b at (after_cell cols (below (in_column 0 at))) is (omega arith)
      (printed_below b cols bottom at some above)

  pub bell : (cols bottom : ℕ) (at : CursorState) → Moves cols bottom 0x07 at at
  unfolding control
  bell cols bottom at = of_control cols bottom 0x07 at at refl refl (omega arith) (λ s here. (here, λ k outside. refl))

  pub back : (cols bottom : ℕ) (at : CursorState) → Moves cols bottom 0x08 at (in_column (at.x - 1) at)
  unfolding control
  back cols bottom at =
      of_control cols bottom 0x08 at (in_column (at.x - 1) at) refl refl (omega arith)
      (λ s here.
      subst (λ (x : ℕ). IsAt cols bottom (in_column (at.x - 1) at) (at_column (x - 1) s)
      × AreSameOutside at.y at.y s (at_column (x - 1) s)) (sym here.column)
      (to_column cols bottom at (at.x - 1) s (omega (arith, here.within)) here, λ k outside. refl))

  pub return : (cols bottom : ℕ) (at : CursorState) → Moves cols bottom 0x0D at (in_column 0 at)
  unfolding control
  return cols bottom at =
      of_control cols bottom 0x0D at (in_column 0 at) refl refl (omega arith)
      (λ s here. (to_column cols bottom at 0 s (omega (arith, here.within)) here, λ k outside. refl))

  pub feed : (cols bottom : ℕ) (at : CursorState) → at.y < bottom → Moves cols bottom 0x0A at (below at)
  unfolding control
  feed cols bottom at above =
      of_control cols bottom 0x0A at (below at) refl refl (omega arith)
      (λ s here.
      let down = to_next_row cols bottom at s above here in
      subst (λ (t : Bool). IsAt cols bottom (below at) (linefeed (cond t (at_column 0 s) s))
      × AreSameOutside at.y (at.y + 1) s (linefeed (cond t (at_column 0 s) s))) (sym here.straight)
      (down.0, λ k outside. down.1 k))
