-- The run of line feeds that scroll.
use Rattle.std.proofs.Common.{◌≡◌, ◌<◌, ◌≤◌, ◌+◌, ◌-◌, ◌==◌, arith, ℕ, zero, suc, Bool, true, false, cond, List, [], ◌∷◌, ◌++◌, take, drop, length, replicate, refl, sym, ap, ◌∙◌, ⊎_elim}
use Rattle.std.proofs.Math.Seq.{drop-append_seam, take-append_seam, drop-append-add}
use Rattle.std.proofs.lemmas.Bool.{cases_lt, cond-true, or_right}
use Rattle.std.proofs.lemmas.List.{append_assoc, drop_all, drop-append-le, drop-drop, length-append, length-drop, length-replicate, length-take}
use Rattle.std.specs.Prelude.{All, min, not}
use Rattle.vt_cells.specs.declared.cell.Cell.{Cell}
use Rattle.vt_grid.specs.Grid.{GridView, moved_up, scrolled_up}
use Rattle.vt_screen.proofs.Printed.{either_mode, fresh_behind, rest_behind}
use Rattle.vt_canvas.specs.Cursor.{at_column, at_row, linefeed, newline, newlines, region_up}
use Rattle.vt_canvas.specs.Effect.{control}
use Rattle.vt_screen.specs.Run.{ScreenAndOuts, run_from, screen_effects, with_outs, outs_of_option}
use Rattle.vt_canvas.specs.Saying.{without_out}
use Rattle.vt_canvas.specs.Screen.{Screen, blank_of, mode_of}
use Rattle.vt_units.specs.Answer.{answer, rest_after}
use Rattle.vt_units.specs.Bytes.{is_control}
use Rattle.vt_units.specs.Laws.{ControlsAreUnits}
use Rattle.vt_units.specs.Rest.{Rest, fresh}
use Rattle.vt_units.specs.Run.{effects_of, make_reached, run}
use Rattle.vt_units.specs.declared.mode.Mode.{Mode}
use Rattle.vt_units.specs.declared.read.Read.{Read}

-- a line feed leaves the mode
newline_mode : (s : Screen) → mode_of (newline s) ≡ mode_of s
newline_mode s =
    let from : Screen = cond s.state.newline (at_column 0 s) s in
    let same : mode_of from ≡ mode_of s =
    either_mode s.state.newline (at_column 0 s) s (mode_of s) refl refl in
    either_mode (from.state.y == from.state.bottom) (region_up from)
    (at_row (min (from.state.y + 1) (from.grid.rows - 1)) from) (mode_of s) same same

control_feed : (s : Screen) → control 0x0A s ≡ without_out (newline s)
unfolding control
control_feed s = refl

feed_controls : (m : Mode) → is_control m 0x0A ≡ true
feed_controls m = or_right (not m.display) true refl

-- the run of line feeds, where no text is
pub feeds_run : ControlsAreUnits → (bytes : List ℕ) (s : Screen) (rest : Rest)
    → All (λ b. b ≡ 0x0A) bytes → rest.text ≡ []
    → run_from (make_reached s rest) bytes
    ≡ with_outs [] (make_reached (newlines (length bytes) s) (rest_behind bytes (mode_of s) rest))
feeds_run law [] s rest all nothing = refl
feeds_run law (b ∷ bytes) s rest all nothing =
    let m : Mode = mode_of s in
    let feed : ℕ = 0x0A in
    let one_step = law rest m feed nothing (feed_controls m) refl in
    let start : ScreenAndOuts = record { screen = s; outs = [] } in
    let rests : rest_behind bytes (mode_of (newline s)) (fresh m) ≡ fresh m =
    ap (λ (n : Mode). rest_behind bytes n (fresh m)) (newline_mode s) ∙ fresh_behind bytes m in
    let first : make_reached (effects_of screen_effects (answer rest m feed) start) (rest_after rest m feed)
    ≡ with_outs [] (make_reached (newline s) (fresh m)) =
    ap (λ (r : Read). make_reached (effects_of screen_effects r start) (rest_after rest m feed)) one_step.0
    ∙ (λ i. with_outs (outs_of_option (control_feed s i).said) (make_reached (control_feed s i).screen (one_step.1 i))) in
    ap (λ (byte : ℕ). run_from (make_reached s rest) (byte ∷ bytes)) (all zero 0 (omega arith))
    ∙ ap (run screen_effects bytes) first
    ∙ feeds_run law bytes (newline s) (fresh m) (λ k d within. all (suc k) d (omega (arith, within))) refl
    ∙ ap (λ (r : Rest). with_outs [] (make_reached (newlines (length bytes) (newline s)) r)) rests

pub behind_some : (bytes : List ℕ) (m : Mode) (rest : Rest) → 0 < length bytes
    → rest_behind bytes m rest ≡ fresh m
behind_some [] m rest some = absurd (let z : ⊥ = omega (arith, some) in z)
behind_some (b ∷ bytes) m rest some = refl
