-- The effect of texts on a screen where no text is pending, one after another.
use Rattle.std.proofs.Common.{◌≡◌, ℕ, List, [], ◌∷◌, ◌++◌, length, take, Some, refl, sym, subst, ap, ◌∙◌, arith}
use Rattle.std.proofs.lemmas.List.{take_all}
use Rattle.vt_canvas.specs.Effect.{effect}
use Rattle.vt_screen.specs.Run.{ScreenAndOuts, screen_effects, with_outs, outs_of_option}
use Rattle.vt_canvas.specs.Saying.{Effect, without_out}
use Rattle.vt_canvas.specs.Screen.{Screen, mode_of}
use Rattle.vt_units.specs.WholeSequence.{Sequence, sequence_ahead}
use Rattle.vt_units.specs.Answer.{answer, rest_after}
use Rattle.vt_units.specs.Laws.{ComeTo, IsUnitOf, SequencesAreUnits}
use Rattle.vt_units.specs.Rest.{Rest, fresh}
use Rattle.vt_units.specs.Run.{Effects, Reached, effects_of, make_reached, run, step}
use Rattle.vt_units.specs.declared.mode.Mode.{Mode}
use Rattle.vt_units.specs.declared.read.Read.{Read}
use Rattle.vt_units.specs.declared.unit.Unit as units

-- whatever mode the text before it left, the text makes t of s, says nothing and leaves no text
pub record Does (text : List ℕ) (s t : Screen) : Type 0 where
  pub does : (m : Mode) → (left : Mode)
      × (run screen_effects text (with_outs [] (make_reached s (fresh m))) ≡ with_outs [] (make_reached t (fresh left)))

run-append : {S : Type 0} (e : Effects S) (a b : List ℕ) (at : Reached S) → run e (a ++ b) at ≡ run e b (run e a at)
run-append e [] b at = refl
run-append e (x ∷ a) b at = run-append e a b (step e x at)

pub does_nothing : (s : Screen) → Does [] s s
does_nothing s = record { does = λ m. (m, refl) }

pub does_then : {a b : List ℕ} {s t u : Screen} → Does a s t → Does b t u → Does (a ++ b) s u
does_then {a = a} {b = b} {s = s} one two = record {
  does =
      λ m.
      let first = one.does m in
      let second = two.does first.0 in (
        second.0,
        run-append screen_effects a b (with_outs [] (make_reached s (fresh m)))
            ∙ ap (run screen_effects b) first.1
            ∙ second.1,
      );
}

-- the same screen, or the same text, in another form
pub does_to : {a : List ℕ} {s t u : Screen} → Does a s t → t ≡ u → Does a s u
does_to {a = a} {s = s} one same = subst (λ (t : Screen). Does a s t) same one

pub does_from : {a : List ℕ} {s t u : Screen} → s ≡ t → Does a t u → Does a s u
does_from {a = a} {u = u} same one = subst (λ (t : Screen). Does a t u) (sym same) one

pub does_text : {a b : List ℕ} {s t : Screen} → a ≡ b → Does b s t → Does a s t
does_text {s = s} {t = t} same one = subst (λ (text : List ℕ). Does text s t) (sym same) one

-- bytes that come to a unit are run as it
come_run : {S : Type 0} (e : Effects S) (u : units.Unit) (m : Mode) (bytes : List ℕ) (s : S) (old : Rest)
    → e.mode_of s ≡ m → ComeTo u m old bytes
    → run e bytes (make_reached s old) ≡ make_reached (e.on_unit u s) (fresh m)
come_run e u m [] s old mode comes = absurd comes
come_run e u m (b ∷ []) s old mode comes =
    ap (λ (n : Mode). make_reached (effects_of e (answer old n b) s) (rest_after old n b)) mode
    ∙ (λ i. make_reached (effects_of e (comes.0 i) s) (comes.1 i))
come_run e u m (b ∷ c ∷ bytes) s old mode comes =
    let first : step e b (make_reached s old) ≡ make_reached s (rest_after old m b) =
    ap (λ (n : Mode). make_reached (effects_of e (answer old n b) s) (rest_after old n b)) mode
    ∙ ap (λ (r : Read). make_reached (effects_of e r s) (rest_after old m b)) comes.0 in
    ap (run e (c ∷ bytes)) first ∙ come_run e u m (c ∷ bytes) s (rest_after old m b) mode comes.1

-- a sequence that is read at once
pub acts : SequencesAreUnits → (text : List ℕ) (u : units.Unit)
    → sequence_ahead text ≡ Some (record { unit = u; count = length text })
    → (s t : Screen) → effect u s ≡ without_out t → Does text s t
acts law text u found s t is = record {
  does =
      λ m.
      let now : Mode = mode_of s in
      let one : Sequence = record { unit = u; count = length text } in
      let unit : IsUnitOf now (fresh m) text one = law (fresh m) now text one found in
      let first : ScreenAndOuts = record { screen = s; outs = [] } in (
        now,
        ap (λ (bytes : List ℕ). run screen_effects bytes (make_reached first (fresh m)))
            (sym (take_all (length text) text (omega arith)))
            ∙ come_run screen_effects u now (take (length text) text) first (fresh m) refl unit.comes
            ∙ ap (λ (d : Effect). make_reached (record { screen = d.screen; outs = [] ++ outs_of_option d.said }) (fresh now)) is,
      );
}
