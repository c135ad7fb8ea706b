-- Every state that bytes and changes make from a start can be drawn.
use Rattle.std.proofs.Common.{◌≡◌, ℕ, ◌<◌, ◌≤◌, ◌==◌, ◌&&◌, ◌||◌, Bool, not, true, false, List, [], ◌∷◌, nat_le, nat_lt, refl, cond, arith, inl, inr}
use Rattle.std.specs.Prelude.{All, IsTrue}
use Rattle.std.proofs.lemmas.Bool.{and_from, eq-eqb, false≢true, le-leb, lt-ltb, or_left, or_right}
use Rattle.std.proofs.lemmas.List.Elements.{All-head, All-tail}
use Rattle.vt_cells.specs.Rendition.{Rendition}
use Rattle.vt_cells.specs.Width.{columns}
use Rattle.vt_chars.specs.Utf8.{within}
use Rattle.vt_redraw.proofs.for_laws.PlainPens.{IsPlain, PlainPen}
use Rattle.vt_redraw.proofs.for_laws.PlainTable as pens
use Rattle.vt_redraw.proofs.for_laws.PlainTable.{HasRows, Pens}
use Rattle.vt_redraw.specs.Drawable.{is_plain_pair, is_state_drawable}
use Rattle.vt_redraw.specs.Reached.{StatesAreDrawable, TapeStatesAreDrawable}
use Rattle.vt_screen.proofs.for_laws.InsideTable.{control_keeps, escape_keeps, private_keeps, sequence_keeps}
use Rattle.vt_screen.proofs.for_laws.Insides.{IsInside, coloured, colours_reset, printed_once}
use Rattle.vt_canvas.specs.Effect.{control_sequence, effect, private_sequence}
use Rattle.vt_screen.specs.Inside.{HasPlaces}
use Rattle.vt_canvas.specs.Printing.{character_of_byte}
use Rattle.vt_screen.specs.Run.{ScreenAndOuts, screen_effects, with_outs, start}
use Rattle.vt_screen.specs.SavedCursor.{saved_of}
use Rattle.vt_canvas.specs.Screen.{Screen, mode_of, start_saved}
use Rattle.vt_screen.specs.Tape.{Taped, after_tape_item, byte, change, run_tape}
use Rattle.vt_canvas.specs.Change.{Change, after_change, palette, resize, resized_to, user_map}
use Rattle.vt_canvas.specs.declared.saved.Saved.{Saved}
use Rattle.vt_canvas.specs.declared.screen_state.ScreenState.{ScreenState}
use Rattle.vt_units.specs.Answer.{answer}
use Rattle.vt_units.specs.Run.{Reached, effect_of, run, step}
use Rattle.vt_units.specs.declared.read.Read.{Read}
use Rattle.vt_units.specs.declared.then.Then as then
use Rattle.vt_units.specs.declared.unit.Unit as units

-- what is saved is at such a place of a screen of so many rows and columns, in plain colours
abbrev rule_of : (ℕ → ℕ → ℕ → ℕ → Type 0) → Saved → ℕ → ℕ → Type 0
rule_of Place saved rows cols = Place saved.y saved.x rows cols × IsPlain saved.attr

abbrev on-screen : ℕ → ℕ → ℕ → ℕ → Type 0
on-screen y x rows cols = (y < rows) × (x < cols)

abbrev anywhere : ℕ → ℕ → ℕ → ℕ → Type 0
anywhere y x rows cols = Unit {0}

module _ (Place : ℕ → ℕ → ℕ → ℕ → Type 0) (inside : (y x rows cols : ℕ) → y < rows → x < cols → Place y x rows cols) where
  abbrev rule : Saved → ℕ → ℕ → Type 0
  rule saved rows cols = rule_of Place saved rows cols

  abbrev IsTidy : Screen → Type 0
  IsTidy s = IsInside rule s × Pens s

  has-row : (s : Screen) → IsInside rule s → 0 < s.grid.rows
  unfolding IsInside
  has-row s h = let y = h.0 in omega (arith, y)

  plain-saved : (s : Screen) → IsInside rule s → IsPlain s.state.saved.attr
  unfolding IsInside
  plain-saved s h = h.5.1

  to-save : (s : Screen) → IsInside rule s → Pens s → rule (saved_of s) s.grid.rows s.grid.cols
  unfolding IsInside Pens PlainPen
  to-save s h p = (inside s.state.y s.state.x s.grid.rows s.grid.cols h.0 h.1, p.0.0)

  to-reset : (s : Screen) → IsInside rule s → rule start_saved s.grid.rows s.grid.cols
  unfolding IsInside
  to-reset s h =
      let y = h.0 in
      let x = h.1 in
      (inside 0 0 s.grid.rows s.grid.cols (omega (arith, y)) (omega (arith, x)), (omega arith, omega arith))

  unit-keeps : (u : units.Unit) (s : Screen) → IsTidy s → IsTidy (effect u s).screen
  unit-keeps (units.Unit.Char code) s (h, p) = (printed_once rule (columns code) code s h, pens.printed-pens (columns code) code s p)
  unit-keeps (units.Unit.Byte x) s (h, p) =
      (printed_once rule 1 (character_of_byte x s) s h, pens.printed-pens 1 (character_of_byte x s) s p)
  unit-keeps (units.Unit.Control code) s (h, p) = (control_keeps rule code s h, pens.control-pens code s p)
  unit-keeps (units.Unit.Esc mid last) s (h, p) = (
    escape_keeps rule mid last s (λ _. to-save s h p) (λ _. to-reset s h) h,
    pens.escape-pens mid last s (has-row s h) (plain-saved s h) p,
  )
  unit-keeps (units.Unit.Csi private params last) s (h, p) = by private
    where
      by : (test : Bool) → IsTidy (cond test (private_sequence params last s) (control_sequence params last s)).screen
      by true = (private_keeps rule params last s h, pens.private-pens params last s p)
      by false = (
        sequence_keeps rule params last s (λ _. to-save s h p) h,
        pens.sequence-pens params last s (plain-saved s h) p,
      )
  unit-keeps (units.Unit.Colour n rgb) s (h, p) = (coloured rule n rgb s h, pens.coloured n rgb s p)
  unit-keeps units.Unit.ColourReset s (h, p) = (colours_reset rule s h, pens.colours-reset s p)
  unit-keeps units.Unit.Ignored s h = h

  then-keeps : (t : then.Then) (at : ScreenAndOuts) → IsTidy at.screen → IsTidy (effect_of screen_effects t at).screen
  then-keeps (then.Then.Unit u) at h = unit-keeps u at.screen h
  then-keeps (then.Then.Act code) at (h, p) = (control_keeps rule code at.screen h, pens.control-pens code at.screen p)
  then-keeps then.Then.More at h = h
  then-keeps then.Then.Dropped at h = h

  bad-keeps : (bad : Bool) (at : ScreenAndOuts) → IsTidy at.screen → IsTidy (cond bad (screen_effects.on_unit (units.Unit.Char 0xFFFD) at) at).screen
  bad-keeps true at h = unit-keeps (units.Unit.Char 0xFFFD) at.screen h
  bad-keeps false at h = h

  step-keeps : (b : ℕ) (at : Reached ScreenAndOuts) → IsTidy at.state.screen → IsTidy (step screen_effects b at).state.screen
  step-keeps b at h =
      let read : Read = answer at.rest (mode_of at.state.screen) b in
      then-keeps read.got (cond read.bad (screen_effects.on_unit (units.Unit.Char 0xFFFD) at.state) at.state)
      (bad-keeps read.bad at.state h)

  run-keeps : (bytes : List ℕ) (at : Reached ScreenAndOuts) → IsTidy at.state.screen → IsTidy (run screen_effects bytes at).state.screen
  run-keeps [] at h = h
  run-keeps (b ∷ bytes) at h = run-keeps bytes (step screen_effects b at) (step-keeps b at h)

  starts : (rows cols : ℕ) → 1 ≤ rows → 1 ≤ cols → IsTidy (start rows cols).state
  unfolding IsInside Pens PlainPen
  starts rows cols r c = (
    (
      omega (arith, r),
      omega (arith, c),
      omega arith,
      omega (arith, r),
      λ o. absurd (false≢true o),
      (inside 0 0 rows cols (omega (arith, r)) (omega (arith, c)), (omega arith, omega arith)),
    ),
    (((omega arith, omega arith), omega arith, omega arith, λ o. absurd (false≢true o)), pens.whole-region rows (omega (arith, r))),
  )

implied : (a b : Bool) → (IsTrue a → b ≡ true) → (not a || b) ≡ true
implied true b h = h refl
implied false b h = refl

plain-pair : (a : Rendition) → IsPlain a → is_plain_pair a ≡ true
plain-pair a h = and_from (nat_lt a.fg 8) (nat_lt a.bg 8) (lt-ltb a.fg 8 h.0) (lt-ltb a.bg 8 h.1)

has-rows : (top bottom rows : ℕ) → HasRows top bottom rows → (nat_lt top bottom || rows == 1) ≡ true
has-rows top bottom rows (inl less) = or_left (nat_lt top bottom) (rows == 1) (lt-ltb top bottom less)
has-rows top bottom rows (inr one) = or_right (nat_lt top bottom) (rows == 1) (eq-eqb rows 1 one)

-- the state with other parts saved
drawable : (rule : Saved → ℕ → ℕ → Type 0) (s : Screen) (saved : Saved) → IsInside rule s → Pens s
    → saved.y < s.grid.rows → saved.x < s.grid.cols → IsPlain saved.attr
    → is_state_drawable s.grid.rows s.grid.cols (record s.state { saved = saved }) ≡ true
unfolding IsInside Pens PlainPen is_state_drawable
drawable rule s saved h p row column plain =
    let v : ScreenState = record s.state { saved = saved } in
    let a1 : Bool = is_plain_pair v.pen.attr && is_plain_pair v.saved.attr in
    let a2 : Bool = a1 && nat_lt v.pen.def_fg 8 in
    let a3 : Bool = a2 && nat_lt v.pen.def_bg 8 in
    let a4 : Bool = a3 && nat_lt v.saved.y s.grid.rows in
    let a5 : Bool = a4 && nat_lt v.saved.x s.grid.cols in
    let a6 : Bool = a5 && (nat_lt v.top v.bottom || s.grid.rows == 1) in
    let a7 : Bool = a6 && (not v.origin || within v.top v.bottom v.y) in
    and_from a7 (not v.pen.toggle || v.pen.alt)
    (and_from a6 (not v.origin || within v.top v.bottom v.y)
    (and_from a5 (nat_lt v.top v.bottom || s.grid.rows == 1)
    (and_from a4 (nat_lt v.saved.x s.grid.cols)
    (and_from a3 (nat_lt v.saved.y s.grid.rows)
    (and_from a2 (nat_lt v.pen.def_bg 8)
    (and_from a1 (nat_lt v.pen.def_fg 8)
    (and_from (is_plain_pair v.pen.attr) (is_plain_pair v.saved.attr) (plain-pair v.pen.attr p.0.0) (plain-pair v.saved.attr plain))
    (lt-ltb v.pen.def_fg 8 p.0.1))
    (lt-ltb v.pen.def_bg 8 p.0.2))
    (lt-ltb v.saved.y s.grid.rows row))
    (lt-ltb v.saved.x s.grid.cols column))
    (has-rows v.top v.bottom s.grid.rows p.1))
    (implied v.origin (within v.top v.bottom v.y)
    (λ on. and_from (nat_le v.top v.y) (nat_le v.y v.bottom) (le-leb v.top v.y (h.4 on).0) (le-leb v.y v.bottom (h.4 on).1))))
    (implied v.pen.toggle v.pen.alt p.0.3)

-- bytes alone
bytes-inside : (y x rows cols : ℕ) → y < rows → x < cols → on-screen y x rows cols
bytes-inside y x rows cols row column = (row, column)

pub states_are_drawable : StatesAreDrawable
unfolding IsInside
states_are_drawable rows cols bytes r c =
    let end = run screen_effects bytes (with_outs [] (start rows cols)) in
    let s : Screen = end.state.screen in
    let tidy : IsTidy on-screen bytes-inside s =
    run-keeps on-screen bytes-inside bytes (with_outs [] (start rows cols)) (starts on-screen bytes-inside rows cols r c) in
    drawable (rule_of on-screen) s s.state.saved tidy.0 tidy.1 tidy.0.5.0.0 tidy.0.5.0.1 tidy.0.5.1

-- bytes and changes
change-inside : (y x rows cols : ℕ) → y < rows → x < cols → anywhere y x rows cols
change-inside y x rows cols row column = tt

abbrev IsLoose : Screen → Type 0
IsLoose s = IsTidy anywhere change-inside s

change-keeps : (m : Change) (s : Screen) → HasPlaces (change m) → IsLoose s → IsLoose (after_change m s)
unfolding resized_to IsInside Pens
change-keeps (user_map words) s some h = h
change-keeps (palette colours) s some h = h
change-keeps (resize rows cols) s some (h, p) =
    let r = some.0 in
    let c = some.1 in (
      (omega (arith, r), omega (arith, c), omega arith, omega (arith, r), λ o. (omega arith, omega (arith, r)), h.5),
      (p.0, pens.whole-region rows (omega (arith, r))),
    )

item-keeps : (item : Taped) (at : Reached ScreenAndOuts) → HasPlaces item → IsLoose at.state.screen
    → IsLoose (after_tape_item item at).state.screen
item-keeps (byte b) at some h = step-keeps anywhere change-inside b at h
item-keeps (change m) at some h = change-keeps m at.state.screen some h

tape-keeps : (tape : List Taped) (at : Reached ScreenAndOuts) → All HasPlaces tape → IsLoose at.state.screen
    → IsLoose (run_tape tape at).state.screen
tape-keeps [] at some h = h
tape-keeps (item ∷ tape) at some h =
    tape-keeps tape (after_tape_item item at) (All-tail HasPlaces item tape some)
    (item-keeps item at (All-head HasPlaces item tape some) h)

pub tape_states_are_drawable : TapeStatesAreDrawable
unfolding IsInside
tape_states_are_drawable rows cols tape r c some =
    let s : Screen = (run_tape tape (with_outs [] (start rows cols))).state.screen in
    let loose : IsLoose s =
    tape-keeps tape (with_outs [] (start rows cols)) some (starts anywhere change-inside rows cols r c) in
    let y = loose.0.0 in
    let x = loose.0.1 in
    drawable (rule_of anywhere) s (record s.state.saved { x = 0; y = 0 }) loose.0 loose.1 (omega (arith, y)) (omega (arith, x))
    loose.0.5.1
