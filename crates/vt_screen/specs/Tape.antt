-- The tape of a screen: all bytes written to it, and the changes between them.
use Rattle.std.specs.Prelude.{◌≡◌, ℕ, ◌++◌, List, [], ◌∷◌, map}
use Rattle.vt_screen.specs.Run.{ScreenAndOuts, screen_effects, with_outs, run_from}
use Rattle.vt_canvas.specs.Screen.{Screen}
use Rattle.vt_canvas.specs.Change.{Change, after_change}
use Rattle.vt_units.specs.Run.{Reached, make_reached, step}

-- a tape holds bytes and changes
pub data Taped : Type 0 where
  byte : ℕ → Taped
  change : Change → Taped

-- a change acts on the screen, and leaves the rest of the text
abbrev pub with_change : Change → Reached Screen → Reached Screen
with_change m at = make_reached (after_change m at.state) at.rest

-- the effect of an item of a tape
abbrev pub after_tape_item : Taped → Reached ScreenAndOuts → Reached ScreenAndOuts
after_tape_item (byte b) at = step screen_effects b at
after_tape_item (change m) at = make_reached (record at.state { screen = after_change m at.state.screen }) at.rest

-- run over a tape: its items in order
abbrev pub run_tape : List Taped → Reached ScreenAndOuts → Reached ScreenAndOuts
run_tape [] at = at
run_tape (item ∷ items) at = run_tape items (after_tape_item item at)

-- a stretch of bytes on a tape is the run of the bytes
abbrev pub StretchesRun : Type 0
StretchesRun = (m : Reached Screen) (bytes : List ℕ) → run_tape (map byte bytes) (with_outs [] m) ≡ run_from m bytes

-- a tape cut in two is run in two parts
abbrev pub AnyTapeCut : Type 0
AnyTapeCut = (a b : List Taped) (at : Reached ScreenAndOuts) → run_tape (a ++ b) at ≡ run_tape b (run_tape a at)
