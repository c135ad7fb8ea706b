-- The end of the reading of an input: docs/reference/program.md, "Order".
use Rattle.std.specs.Prelude.{Result, Ok, Err, ⊤}
use Rattle.vt_base.specs.Bytes.{Text}
use Rattle.vt_io.specs.Stream.{Stream}
use Rattle.vt_tool.specs.Input.{ReadsAll, ReadsSome, StopsAtFault, PassesLimit}
use Rattle.vt_tool.specs.Commands.{intake_of}
use Rattle.vt_tool.specs.Run.{Holds}
use Rattle.vt_tool.specs.declared.command.Command.{Command}
use Rattle.vt_tool.specs.declared.intake.Intake.{Intake}
use Rattle.vt_tool.specs.declared.intake.Intake.TheVariants.{InPieces}
use Rattle.vt_tool.specs.declared.read_end.ReadEnd.{ReadEnd}
use Rattle.vt_tool.specs.declared.read_end.ReadEnd.TheVariants.{Fault, TooLong, NoMemory}
use Rattle.vt_tool.specs.declared.status.Status.{Status}

-- the command takes its input as one text, or takes none
abbrev pub IsWhole : Intake → Type 0
IsWhole (InPieces limit) = ⊥
IsWhole other = ⊤

-- the whole input, or the reason that it is missing
abbrev pub EndsReading : Intake → Stream → Stream → Result Text ReadEnd → Type 0
EndsReading intake src src' (Ok input) = ReadsAll intake src src' input.bytes
EndsReading intake src src' (Err Fault) = StopsAtFault intake src src'
EndsReading intake src src' (Err TooLong) = PassesLimit intake src src'
EndsReading intake src src' (Err NoMemory) = ReadsSome intake src src'

-- the whole input of a command, or the status of a run that writes nothing
abbrev pub GivesInput : Command → Stream → Stream → Result Text Status → Type 0
GivesInput command src src' (Ok input) = ReadsAll (intake_of command) src src' input.bytes
GivesInput command src src' (Err status) = (out : Stream) → Holds command src src' out out status
