-- Runs over tapes.
use Rattle.std.proofs.Common.{◌≡◌, ℕ, List, [], ◌∷◌, map, refl}
use Rattle.vt_screen.specs.Run.{ScreenAndOuts, screen_effects, with_outs}
use Rattle.vt_screen.specs.Tape.{AnyTapeCut, StretchesRun, byte, after_tape_item, run_tape}
use Rattle.vt_units.specs.Run.{Reached, run, step}

stretch : (bytes : List ℕ) (at : Reached ScreenAndOuts) → run_tape (map byte bytes) at ≡ run screen_effects bytes at
stretch [] at = refl
stretch (b ∷ bytes) at = stretch bytes (step screen_effects b at)

pub stretches_run : StretchesRun
stretches_run m bytes = stretch bytes (with_outs [] m)

pub any_tape_cut : AnyTapeCut
any_tape_cut [] b at = refl
any_tape_cut (item ∷ a) b at = any_tape_cut a b (after_tape_item item at)
