-- No cut of a text matters: earlier side effects stay before those of a run.
use Rattle.std.proofs.Common.{◌≡◌, ℕ, Bool, true, false, List, [], ◌∷◌, ◌++◌, refl, sym, ap, ◌∙◌, append_assoc, if◌then◌else◌}
use Rattle.std.proofs.lemmas.List.{append-nil}
use Rattle.vt_canvas.specs.Effect.{control, effect}
use Rattle.vt_screen.specs.Run.{AnyCut, ScreenAndOuts, after, screen_effects, with_outs, outs_of_option, run_from, outs_of_run, then_done}
use Rattle.vt_canvas.specs.Saying.{Effect}
use Rattle.vt_canvas.specs.Screen.{Screen, mode_of}
use Rattle.vt_canvas.specs.declared.out.Out.{Out}
use Rattle.vt_units.proofs.Runs.{any_cut}
use Rattle.vt_units.specs.Answer.{answer, rest_after}
use Rattle.vt_units.specs.Run.{Reached, effect_of, make_reached, run, step}
use Rattle.vt_units.specs.declared.read.Read.{Read}
use Rattle.vt_units.specs.declared.then.Then as then
use Rattle.vt_units.specs.declared.unit.Unit as units

-- the same, with more said before
abbrev pub behind : List Out → ScreenAndOuts → ScreenAndOuts
behind outs t = record { screen = t.screen; outs = outs ++ t.outs }

abbrev pub make_reached-behind : List Out → Reached ScreenAndOuts → Reached ScreenAndOuts
make_reached-behind outs at = make_reached (behind outs at.state) at.rest

done_behind : (f : Screen → Effect) (outs : List Out) (t : ScreenAndOuts)
    → then_done f (behind outs t) ≡ behind outs (then_done f t)
done_behind f outs t =
    let done : Effect = f t.screen in
    let joined : (outs ++ t.outs) ++ outs_of_option done.said ≡ outs ++ (t.outs ++ outs_of_option done.said) =
    append_assoc outs t.outs (outs_of_option done.said) in
    λ i. record { screen = done.screen; outs = joined i }

got_behind : (got : then.Then) (outs : List Out) (t : ScreenAndOuts)
    → effect_of screen_effects got (behind outs t) ≡ behind outs (effect_of screen_effects got t)
got_behind (then.Then.Unit u) outs t = done_behind (effect u) outs t
got_behind (then.Then.Act c) outs t = done_behind (control c) outs t
got_behind then.Then.More outs t = refl
got_behind then.Then.Dropped outs t = refl

abbrev malformed : Bool → ScreenAndOuts → ScreenAndOuts
malformed bad t = if bad then then_done (effect (units.Unit.Char 0xFFFD)) t else t

bad_behind : (bad : Bool) (outs : List Out) (t : ScreenAndOuts)
    → malformed bad (behind outs t) ≡ behind outs (malformed bad t)
bad_behind true outs t = done_behind (effect (units.Unit.Char 0xFFFD)) outs t
bad_behind false outs t = refl

step-behind : (b : ℕ) (outs : List Out) (at : Reached ScreenAndOuts)
    → step screen_effects b (make_reached-behind outs at) ≡ make_reached-behind outs (step screen_effects b at)
step-behind b outs at =
    let read : Read = answer at.rest (mode_of at.state.screen) b in
    let first : malformed read.bad (behind outs at.state) ≡ behind outs (malformed read.bad at.state) =
    bad_behind read.bad outs at.state in
    let both : effect_of screen_effects read.got (malformed read.bad (behind outs at.state))
    ≡ behind outs (effect_of screen_effects read.got (malformed read.bad at.state)) =
    ap (effect_of screen_effects read.got) first ∙ got_behind read.got outs (malformed read.bad at.state) in
    ap (λ t. make_reached t (rest_after at.rest (mode_of at.state.screen) b)) both

run-behind : (bytes : List ℕ) (outs : List Out) (at : Reached ScreenAndOuts)
    → run screen_effects bytes (make_reached-behind outs at) ≡ make_reached-behind outs (run screen_effects bytes at)
run-behind [] outs at = refl
run-behind (b ∷ bytes) outs at =
    ap (run screen_effects bytes) (step-behind b outs at) ∙ run-behind bytes outs (step screen_effects b at)

-- a run after which more had been said before
pub run-from : (outs : List Out) (m : Reached Screen) (bytes : List ℕ)
    → run screen_effects bytes (with_outs outs m) ≡ make_reached-behind outs (run_from m bytes)
run-from outs m bytes =
    let none : outs ++ [] ≡ outs = append-nil outs in
    ap (λ (o : List Out). run screen_effects bytes (with_outs o m)) (sym none)
    ∙ run-behind bytes outs (with_outs [] m)

pub cuts : AnyCut
cuts m a b =
    let parts : run_from m (a ++ b) ≡ make_reached-behind (outs_of_run m a) (run_from (after m a) b) =
    any_cut screen_effects a b (with_outs [] m) ∙ run-from (outs_of_run m a) (after m a) b in (
      ap (λ (end : Reached ScreenAndOuts). make_reached end.state.screen end.rest) parts,
      ap (λ (end : Reached ScreenAndOuts). end.state.outs) parts,
    )
