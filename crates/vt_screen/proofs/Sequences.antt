-- A sequence that is read at once.
use Rattle.std.proofs.Common.{◌≡◌, ℕ, List, [], ◌∷◌, take, Option, Some, sym, subst, ap, ◌∙◌}
use Rattle.vt_canvas.specs.Effect.{effect}
use Rattle.vt_screen.proofs.Quiet.{quiet_sequence}
use Rattle.vt_screen.specs.Run.{HasRun, IsQuietBefore, ScreenAndOuts, screen_effects, with_outs, outs_of_option, run_from}
use Rattle.vt_canvas.specs.Screen.{Screen, mode_of}
use Rattle.vt_canvas.specs.declared.out.Out.{Out}
use Rattle.vt_units.specs.WholeSequence.{Sequence, taken_ahead}
use Rattle.vt_units.specs.Answer.{answer, rest_after}
use Rattle.vt_units.specs.Laws.{ComeTo, IsUnitOf, SequencesAreUnits}
use Rattle.vt_units.specs.Rest.{Rest, fresh}
use Rattle.vt_units.specs.Run.{Effects, Reached, effects_of, make_reached, run, step}
use Rattle.vt_units.specs.declared.mode.Mode.{Mode}
use Rattle.vt_units.specs.declared.read.Read.{Read}
use Rattle.vt_units.specs.declared.unit.Unit as units

-- bytes that come to a unit are run as it
pub come_run : {S : Type 0} (e : Effects S) (u : units.Unit) (m : Mode) (bytes : List ℕ) (s : S) (old : Rest)
    → e.mode_of s ≡ m → ComeTo u m old bytes
    → run e bytes (make_reached s old) ≡ make_reached (e.on_unit u s) (fresh m)
come_run e u m [] s old mode comes = absurd comes
come_run e u m (b ∷ []) s old mode comes =
    ap (λ (n : Mode). make_reached (effects_of e (answer old n b) s) (rest_after old n b)) mode
    ∙ (λ i. make_reached (effects_of e (comes.0 i) s) (comes.1 i))
come_run e u m (b ∷ c ∷ bytes) s old mode comes =
    let first : step e b (make_reached s old) ≡ make_reached s (rest_after old m b) =
    ap (λ (n : Mode). make_reached (effects_of e (answer old n b) s) (rest_after old n b)) mode
    ∙ ap (λ (r : Read). make_reached (effects_of e r s) (rest_after old m b)) comes.0 in
    ap (run e (c ∷ bytes)) first ∙ come_run e u m (c ∷ bytes) s (rest_after old m b) mode comes.1

-- a sequence as it is taken
pub sequence_run : SequencesAreUnits → (text : List ℕ) (old : Reached Screen) (s drawn : Screen) (rest new : Rest) (m : Mode)
    (one : Sequence) (said : Option Out)
    → make_reached s rest ≡ old → m ≡ mode_of s → taken_ahead rest text ≡ Some one → new ≡ fresh m
    → effect one.unit s ≡ record { screen = drawn; said = said }
    → HasRun old text one.count (make_reached drawn new) said
sequence_run law text old s drawn rest new m one said view mode found fresh_is is =
    let comes : IsUnitOf m rest text one = law rest m text one found in
    let start : ScreenAndOuts = record { screen = s; outs = [] } in (
      comes.within,
      ap (λ (from : Reached Screen). run_from from (take one.count text)) (sym view)
          ∙ come_run screen_effects one.unit m (take one.count text) start rest (sym mode) comes.comes
          ∙ (λ i. with_outs (outs_of_option (is i).said) (make_reached (is i).screen (sym fresh_is i))),
      subst (λ (from : Reached Screen). IsQuietBefore one.count from text) view
          (quiet_sequence one.unit m text one.count s rest comes.within (sym mode) comes.comes),
    )
