-- The drawing of a source on a screen: docs/reference/program.md, "Order".
use Rattle.std.specs.Prelude.{◌≡◌, ◌↔◌, ℕ, Bool, IsTrue, ◌<◌, ◌≤◌, List, length, take, Result, Ok, Err, Some}
use Rattle.vt_io.specs.Faults.{Rose}
use Rattle.vt_io.specs.Stream.{Stream}
use Rattle.vt_screen.specs.Run.{after, start}
use Rattle.vt_canvas.specs.Screen.{Screen}
use Rattle.vt_tool.specs.Commands.Screen.{screen_limit}
use Rattle.vt_tool.specs.Input.{ReadsAll, Takes}
use Rattle.vt_tool.specs.Run.{Holds}
use Rattle.vt_tool.specs.declared.command.Command.TheVariants.{Screen as DrawScreen}
use Rattle.vt_tool.specs.declared.intake.Intake.TheVariants.{InPieces}
use Rattle.vt_tool.specs.declared.status.Status.{Status}
use Rattle.vt_tool.specs.declared.streamed.Streamed.{Streamed}
use Rattle.vt_tool.specs.declared.streamed.Streamed.TheVariants.{End, Fault, TooLong}
use Rattle.vt_units.specs.Run.{Reached}

-- all bytes of the source are drawn on the screen
abbrev pub DrawsAll : Stream → Stream → Reached Screen → Reached Screen → Type 0
DrawsAll src src' emu emu' =
    (input : List ℕ) × ReadsAll (InPieces screen_limit) src src' input × (emu' ≡ after emu input)

-- the source's count rose; the bytes before that fault are drawn, no more than the limit
abbrev pub DrawsToFault : Stream → Stream → Reached Screen → Reached Screen → Type 0
DrawsToFault src src' emu emu' =
    Rose src.faults src'.faults
    × (taken : List ℕ) × Takes src src' taken × (length taken ≤ screen_limit)
    × (emu' ≡ after emu taken)

-- more bytes than the limit were read; the first ones, up to the limit, are drawn
abbrev pub DrawsToLimit : Stream → Stream → Reached Screen → Reached Screen → Type 0
DrawsToLimit src src' emu emu' =
    (taken : List ℕ) × Takes src src' taken × (screen_limit < length taken)
    × (emu' ≡ after emu (take screen_limit taken))

-- the source and the screen at each end
abbrev pub EndsStreaming : Stream → Stream → Reached Screen → Reached Screen → Streamed → Type 0
EndsStreaming src src' emu emu' End = DrawsAll src src' emu emu'
EndsStreaming src src' emu emu' Fault = DrawsToFault src src' emu emu'
EndsStreaming src src' emu emu' TooLong = DrawsToLimit src src' emu emu'

-- the count of faults of a source after reads that didn't fail: it never falls, and it is unchanged if the source is
-- steady
abbrev pub KeepsCount : Bool → ℕ → ℕ → Type 0
KeepsCount steady before now = (before ≤ now) × (IsTrue steady → now ≡ before)

-- the count of faults of a source, which is steady or isn't: it rose at a fault, and no read failed before another end
abbrev pub CountsFault : Bool → ℕ → ℕ → Streamed → Type 0
CountsFault steady before now End = KeepsCount steady before now
CountsFault steady before now Fault = Rose before now
CountsFault steady before now TooLong = KeepsCount steady before now

-- if the bytes of the source are known and no read fails, their number determines the end
abbrev pub EndsByLength : Stream → Stream → Streamed → Type 0
EndsByLength src src' end =
    (input : List ℕ) → src.bytes ≡ Some input → ¬ Rose src.faults src'.faults
    → ((end ≡ End) ↔ (length input ≤ screen_limit))
    × ((end ≡ TooLong) ↔ (screen_limit < length input))

-- the screen after the whole input, or the status of a run that writes nothing
abbrev pub GivesScreen : ℕ → ℕ → Stream → Stream → Result (Reached Screen) Status → Type 0
GivesScreen rows cols src src' (Ok emu) = DrawsAll src src' (start rows cols) emu
GivesScreen rows cols src src' (Err status) =
    (out : Stream) → Holds (DrawScreen rows cols) src src' out out status
