-- A control character by itself.
use Rattle.std.proofs.Common.{◌≡◌, ◌==◌, ◌&&◌, not, ℕ, true, [], ◌∷◌, sym, ap, ◌∙◌}
use Rattle.std.proofs.lemmas.Bool.{and_parts, not-true}
use Rattle.vt_screen.proofs.Printed.{empty_is}
use Rattle.vt_canvas.specs.Effect.{control}
use Rattle.vt_screen.specs.Run.{ScreenAndOuts, screen_effects, with_outs, outs_of_option, run_from}
use Rattle.vt_canvas.specs.Saying.{Effect}
use Rattle.vt_canvas.specs.Screen.{Screen, mode_of}
use Rattle.vt_units.specs.Answer.{answer, rest_after}
use Rattle.vt_units.specs.Bytes.{is_control}
use Rattle.vt_units.specs.Laws.{ControlsAreUnits}
use Rattle.vt_units.specs.Reading.{is_empty}
use Rattle.vt_units.specs.Rest.{Rest, fresh}
use Rattle.vt_units.specs.Run.{effects_of, make_reached}
use Rattle.vt_units.specs.declared.mode.Mode.{Mode}
use Rattle.vt_units.specs.declared.read.Read.{Read}

-- it is the run of the byte
pub control_run : ControlsAreUnits → (b : ℕ) (s : Screen) (rest : Rest) (m : Mode)
    → m ≡ mode_of s → (is_empty rest.text && is_control m b && not (b == 0x1B)) ≡ true
    → (done : Effect) → control b s ≡ done
    → run_from (make_reached s rest) (b ∷ []) ≡ with_outs (outs_of_option done.said) (make_reached done.screen (fresh m))
control_run law b s rest m mode takes done is =
    let last = and_parts (is_empty rest.text && is_control m b) (not (b == 0x1B)) takes in
    let first = and_parts (is_empty rest.text) (is_control m b) last.0 in
    let one = law rest (mode_of s) b (empty_is rest.text first.0)
    (ap (λ (n : Mode). is_control n b) (sym mode) ∙ first.1) (not-true (b == 0x1B) last.1) in
    let start : ScreenAndOuts = record { screen = s; outs = [] } in
    let stepped : make_reached (effects_of screen_effects (answer rest (mode_of s) b) start) (rest_after rest (mode_of s) b)
    ≡ with_outs (outs_of_option (control b s).said) (make_reached (control b s).screen (fresh (mode_of s))) =
    ap (λ (r : Read). make_reached (effects_of screen_effects r start) (rest_after rest (mode_of s) b)) one.0
    ∙ ap (λ (r : Rest). with_outs (outs_of_option (control b s).said) (make_reached (control b s).screen r)) one.1 in
    stepped ∙ (λ i. with_outs (outs_of_option (is i).said) (make_reached (is i).screen (fresh (sym mode i))))
