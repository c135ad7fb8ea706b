-- The cursor is inside after every tape.
use Rattle.std.proofs.Common.{ℕ, Bool, true, false, List, [], ◌∷◌, cond, arith}
use Rattle.std.specs.Prelude.{All}
use Rattle.std.proofs.lemmas.Bool.{false≢true}
use Rattle.std.proofs.lemmas.List.Elements.{All-head, All-tail}
use Rattle.vt_cells.specs.Width.{columns}
use Rattle.vt_screen.proofs.for_laws.InsideTable.{control_keeps, escape_keeps, private_keeps, sequence_keeps}
use Rattle.vt_screen.proofs.for_laws.Insides.{IsInside, coloured, colours_reset, printed_once}
use Rattle.vt_canvas.specs.Effect.{control_sequence, effect, private_sequence}
use Rattle.vt_screen.specs.Inside.{HasPlaces, TapesKeepCursor}
use Rattle.vt_canvas.specs.Printing.{character_of_byte}
use Rattle.vt_screen.specs.Run.{ScreenAndOuts, screen_effects, with_outs, start}
use Rattle.vt_canvas.specs.Screen.{Screen, mode_of}
use Rattle.vt_screen.specs.Tape.{Taped, byte, change, after_tape_item, run_tape}
use Rattle.vt_canvas.specs.Change.{Change, after_change, palette, resize, resized_to, user_map}
use Rattle.vt_canvas.specs.declared.saved.Saved.{Saved}
use Rattle.vt_units.specs.Answer.{answer}
use Rattle.vt_units.specs.Run.{Reached, effect_of}
use Rattle.vt_units.specs.declared.read.Read.{Read}
use Rattle.vt_units.specs.declared.then.Then as then
use Rattle.vt_units.specs.declared.unit.Unit as units

-- nothing is asked of what is saved
abbrev free : Saved → ℕ → ℕ → Type 0
free saved rows cols = Unit {0}

unit_keeps : (u : units.Unit) (s : Screen) → IsInside free s → IsInside free (effect u s).screen
unit_keeps (units.Unit.Char code) s h = printed_once free (columns code) code s h
unit_keeps (units.Unit.Byte x) s h = printed_once free 1 (character_of_byte x s) s h
unit_keeps (units.Unit.Control code) s h = control_keeps free code s h
unit_keeps (units.Unit.Esc mid last) s h = escape_keeps free mid last s (λ _. tt) (λ _. tt) h
unit_keeps (units.Unit.Csi private params last) s h = by private
  where
    by : (test : Bool) → IsInside free (cond test (private_sequence params last s) (control_sequence params last s)).screen
    by true = private_keeps free params last s h
    by false = sequence_keeps free params last s (λ _. tt) h
unit_keeps (units.Unit.Colour n rgb) s h = coloured free n rgb s h
unit_keeps units.Unit.ColourReset s h = colours_reset free s h
unit_keeps units.Unit.Ignored s h = h

then_keeps : (t : then.Then) (at : ScreenAndOuts) → IsInside free at.screen → IsInside free (effect_of screen_effects t at).screen
then_keeps (then.Then.Unit u) at h = unit_keeps u at.screen h
then_keeps (then.Then.Act code) at h = control_keeps free code at.screen h
then_keeps then.Then.More at h = h
then_keeps then.Then.Dropped at h = h

bad_keeps : (bad : Bool) (at : ScreenAndOuts) → IsInside free at.screen → IsInside free (cond bad (screen_effects.on_unit (units.Unit.Char 0xFFFD) at) at).screen
bad_keeps true at h = printed_once free (columns 0xFFFD) 0xFFFD at.screen h
bad_keeps false at h = h

change_keeps : (m : Change) (s : Screen) → HasPlaces (change m) → IsInside free s → IsInside free (after_change m s)
unfolding resized_to IsInside
change_keeps (user_map words) s some h = h
change_keeps (palette colours) s some h = h
change_keeps (resize rows cols) s some h =
    let r = some.0 in
    let c = some.1 in
    (omega (arith, r), omega (arith, c), omega arith, omega (arith, r), λ o. (omega arith, omega (arith, r)), tt)

after_tape_item_keeps : (item : Taped) (at : Reached ScreenAndOuts) → HasPlaces item → IsInside free at.state.screen → IsInside free (after_tape_item item at).state.screen
after_tape_item_keeps (byte b) at some h =
    let m = mode_of at.state.screen in
    let read : Read = answer at.rest m b in
    then_keeps read.got (cond read.bad (screen_effects.on_unit (units.Unit.Char 0xFFFD) at.state) at.state) (bad_keeps read.bad at.state h)
after_tape_item_keeps (change m) at some h = change_keeps m at.state.screen some h

tape_keeps : (tape : List Taped) (at : Reached ScreenAndOuts) → All HasPlaces tape → IsInside free at.state.screen → IsInside free (run_tape tape at).state.screen
tape_keeps [] at some h = h
tape_keeps (item ∷ tape) at some h =
    tape_keeps tape (after_tape_item item at) (All-tail HasPlaces item tape some) (after_tape_item_keeps item at (All-head HasPlaces item tape some) h)

pub tapes_keep_cursor : TapesKeepCursor
unfolding IsInside
tapes_keep_cursor rows cols tape r c some =
    let h = tape_keeps tape (with_outs [] (start rows cols)) some
    (omega (arith, r), omega (arith, c), omega arith, omega (arith, r), λ o. absurd (false≢true o), tt) in
    (h.0, h.1, h.4)
