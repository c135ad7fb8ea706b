-- Earlier side effects change nothing of the screen that a tape gives.
use Rattle.std.proofs.Common.{◌≡◌, ℕ, Bool, true, false, cond, List, [], ◌∷◌, ◌++◌, map, refl, sym, ap, ◌∙◌}
use Rattle.vt_screen.specs.Run.{ScreenAndOuts, after, screen_effects, with_outs, start}
use Rattle.vt_canvas.specs.Screen.{Screen, mode_of}
use Rattle.vt_screen.specs.Tape.{AnyTapeCut, StretchesRun, Taped, byte, change, run_tape, with_change}
use Rattle.vt_canvas.specs.Change.{Change, after_change}
use Rattle.vt_canvas.specs.declared.out.Out.{Out}
use Rattle.vt_units.specs.Answer.{answer, rest_after}
use Rattle.vt_units.specs.Rest.{Rest}
use Rattle.vt_units.specs.Run.{Reached, effect_of, effects_of, make_reached}
use Rattle.vt_units.specs.declared.read.Read.{Read}
use Rattle.vt_units.specs.declared.then.Then as then
use Rattle.vt_units.specs.declared.unit.Unit as units
use Rattle.vt_world.specs.Tapes.{screen_of}

abbrev saying : List Out → Screen → ScreenAndOuts
saying outs s = record { screen = s; outs = outs }

-- the screen, with the rest of the text
abbrev seen : Reached ScreenAndOuts → Reached Screen
seen at = make_reached at.state.screen at.rest

-- the effect of a byte's outcome, with its tests as variables
effect_alike : (got : then.Then) (bad : Bool) (s : Screen) (a b : List Out)
    → (effect_of screen_effects got (cond bad (screen_effects.on_unit (units.Unit.Char 0xFFFD) (saying a s)) (saying a s))).screen
    ≡ (effect_of screen_effects got (cond bad (screen_effects.on_unit (units.Unit.Char 0xFFFD) (saying b s)) (saying b s))).screen
effect_alike (then.Then.Unit u) true s a b = refl
effect_alike (then.Then.Unit u) false s a b = refl
effect_alike (then.Then.Act c) true s a b = refl
effect_alike (then.Then.Act c) false s a b = refl
effect_alike then.Then.More true s a b = refl
effect_alike then.Then.More false s a b = refl
effect_alike then.Then.Dropped true s a b = refl
effect_alike then.Then.Dropped false s a b = refl

-- runs from one screen see one screen
runs_alike : (items : List Taped) (s : Screen) (rest : Rest) (a b : List Out)
    → seen (run_tape items (make_reached (saying a s) rest))
    ≡ seen (run_tape items (make_reached (saying b s) rest))
runs_alike [] s rest a b = refl
runs_alike (change m ∷ items) s rest a b = runs_alike items (after_change m s) rest a b
runs_alike (byte n ∷ items) s rest a b =
    let read : Read = answer rest (mode_of s) n in
    let left : Rest = rest_after rest (mode_of s) n in
    let one : ScreenAndOuts = effects_of screen_effects read (saying a s) in
    let other : ScreenAndOuts = effects_of screen_effects read (saying b s) in
    runs_alike items one.screen left one.outs other.outs
    ∙ ap (λ (screen : Screen). seen (run_tape items (make_reached (saying other.outs screen) left)))
    (effect_alike read.got read.bad s a b)

-- bytes after a tape are run on its screen
pub tape_writes : StretchesRun → AnyTapeCut → (rows cols : ℕ) (tape : List Taped) (bytes : List ℕ)
    → after (screen_of rows cols tape) bytes ≡ screen_of rows cols (tape ++ map byte bytes)
tape_writes stretches cuts rows cols tape bytes =
    let begin : Reached ScreenAndOuts = with_outs [] (start rows cols) in
    let at : Reached ScreenAndOuts = run_tape tape begin in
    sym
    (ap seen (cuts tape (map byte bytes) begin)
    ∙ runs_alike (map byte bytes) at.state.screen at.rest at.state.outs []
    ∙ ap seen (stretches (seen at) bytes))

-- and a change changes it
pub tape_changes : AnyTapeCut → (rows cols : ℕ) (tape : List Taped) (m : Change)
    → with_change m (screen_of rows cols tape) ≡ screen_of rows cols (tape ++ change m ∷ [])
tape_changes cuts rows cols tape m =
    sym (ap seen (cuts tape (change m ∷ []) (with_outs [] (start rows cols))))
