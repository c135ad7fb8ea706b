-- The run of bytes over a screen, and its laws. Bytes are cut into units (`vt_units`), and the units have
-- their effects in order.
use Rattle.std.specs.Prelude.{◌≡◌, ◌<◌, ◌≤◌, ℕ, ◌++◌, List, [], ◌∷◌, Option, Some, None, length, take}
use Rattle.vt_canvas.specs.Effect.{control, effect}
use Rattle.vt_canvas.specs.Saying.{Effect}
use Rattle.vt_canvas.specs.Screen.{Screen, mode_of, start_screen}
use Rattle.vt_canvas.specs.declared.out.Out.{Out}
use Rattle.vt_units.specs.Cutting.{IsCut, IsRest}
use Rattle.vt_units.specs.Pieces.{HasEffect, controls_of, rest_with, text_of}
use Rattle.vt_units.specs.Reading.{reading}
use Rattle.vt_units.specs.Rest.{fresh, start_mode}
use Rattle.vt_units.specs.Run.{Effects, Reached, make_reached, run}
use Rattle.vt_units.specs.Units.{IsUnfinished}

-- the screen, and all side effects, in order
pub record ScreenAndOuts : Type 0 where
  pub screen : Screen
  pub outs : List Out

abbrev pub outs_of_option : Option Out → List Out
outs_of_option None = []
outs_of_option (Some out) = out ∷ []

-- an effect on the screen; its side effect comes last
abbrev pub then_done : (Screen → Effect) → ScreenAndOuts → ScreenAndOuts
then_done f t =
    let done = f t.screen in
    record { screen = done.screen; outs = t.outs ++ outs_of_option done.said }

-- the effects of control characters and units: the effect table
abbrev pub screen_effects : Effects ScreenAndOuts
screen_effects = record {
  mode_of = λ t. mode_of t.screen;
  on_control = λ code. then_done (control code);
  on_unit = λ unit. then_done (effect unit);
}

-- a screen with the rest of its text, and the side effects so far
abbrev pub with_outs : List Out → Reached Screen → Reached ScreenAndOuts
with_outs outs m = make_reached (record { screen = m.state; outs = outs }) m.rest

-- run: the screen and the rest of its text after the bytes
abbrev pub run_from : Reached Screen → List ℕ → Reached ScreenAndOuts
run_from m bytes = run screen_effects bytes (with_outs [] m)

-- the screen and the rest after the bytes
abbrev pub after : Reached Screen → List ℕ → Reached Screen
after m bytes =
    let end = run_from m bytes in
    make_reached end.state.screen end.rest

-- the side effects of the bytes, in order
abbrev pub outs_of_run : Reached Screen → List ℕ → List Out
outs_of_run m bytes = (run_from m bytes).state.outs

-- the first bytes of the text, if they are fewer than so many, have no side effect
abbrev pub IsQuietBefore : ℕ → Reached Screen → List ℕ → Type 0
IsQuietBefore count old text = (k : ℕ) → k < count → outs_of_run old (take k text) ≡ []

-- so many bytes of the text are run: they make the new state, and their one side effect is this, if they have
-- one. It is that of the last byte
abbrev pub HasRun : Reached Screen → List ℕ → ℕ → Reached Screen → Option Out → Type 0
HasRun old text count new said =
    (count ≤ length text) × (run_from old (take count text) ≡ with_outs (outs_of_option said) new)
    × IsQuietBefore count old text

-- the start: the start screen, and no text
abbrev pub start : ℕ → ℕ → Reached Screen
start rows cols = make_reached (start_screen rows cols) (fresh start_mode)

-- any cut: bytes run as a whole are run in two parts, wherever they are cut, with the side effects of both
abbrev pub AnyCut : Type 0
AnyCut =
    (m : Reached Screen) (a b : List ℕ)
    → (after m (a ++ b) ≡ after (after m a) b) × (outs_of_run m (a ++ b) ≡ outs_of_run m a ++ outs_of_run (after m a) b)

-- the bytes of a piece have the effects of the control characters in it, in order, and then that of
-- its unit
abbrev pub PiecesAct : Type 0
PiecesAct =
    (m : Reached Screen) (bytes : List ℕ) → m.rest.text ≡ []
    → let mode = mode_of m.state in
    let old : ScreenAndOuts = record { screen = m.state; outs = [] } in
    HasEffect screen_effects (reading mode (text_of mode [] bytes)) (controls_of mode [] bytes)
    (rest_with screen_effects old (fresh mode) bytes) (run_from m bytes) old

-- the law of pieces, for a piece whose first bytes are in the rest
abbrev pub PiecesResume : Type 0
PiecesResume =
    (m : Reached Screen) (bytes : List ℕ) → IsUnfinished m.rest.mode m.rest.text
    → let mode = m.rest.mode in
    let text = m.rest.text in
    let old : ScreenAndOuts = record { screen = m.state; outs = [] } in
    HasEffect screen_effects (reading mode (text_of mode text bytes)) (controls_of mode text bytes)
    (rest_with screen_effects old m.rest bytes) (run_from m bytes) old

-- every text consists of pieces and one last rest, and its run is their results
abbrev pub TextsAreCut : Type 0
TextsAreCut =
    (m : Reached Screen) (bytes : List ℕ) → IsRest m.rest → IsCut screen_effects (with_outs [] m) bytes (run_from m bytes)
