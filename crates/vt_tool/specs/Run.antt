-- A run of the program: the relation between its words, its three streams and its status (docs/reference/program.md).
-- Commands has the input and the outcome of each command, Input the ways of reading, and Status the lines.
use Rattle.std.specs.Prelude.{◌≡◌, ◌≢◌, ◌⊎◌, ℕ, List, [], None, Some}
use Rattle.std.specs.Io.KnownBytes.{Appends}
use Rattle.vt_io.specs.Faults.{Rose}
use Rattle.vt_io.specs.Stream.{Stream, GrowsByPrefix}
use Rattle.vt_tool.specs.Commands.{Gives, intake_of}
use Rattle.vt_tool.specs.Input.{ReadsAll, ReadsSome, StopsAtFault, PassesLimit, Offers}
use Rattle.vt_tool.specs.Outcome.{Outcome}
use Rattle.vt_tool.specs.Status.{line_of}
use Rattle.vt_tool.specs.Words.{Form, command_of}
use Rattle.vt_tool.specs.declared.command.Command.{Command}
use Rattle.vt_tool.specs.declared.status.Status.{Status}
use Rattle.vt_tool.specs.declared.status.Status.TheVariants.{Usage, ReadFault, WriteFault, NoMemory, TooLong}

-- the three streams of a run
pub record Streams : Type 0 where
  pub src : Stream
  pub out : Stream
  pub err : Stream

-- the input was read whole, the command has this status for it, and out has grown by the whole defined text
pub record Answers (command : Command) (src src' out out' : Stream) (status : Status) : Type 0 where
  pub input : List ℕ
  pub text : List ℕ
  pub read : ReadsAll (intake_of command) src src' input
  pub gives : Gives command input (record { status = status; text = text })
  pub written : Appends out.bytes out'.bytes text

-- the input was read whole, and out has grown by a prefix of the defined text
pub record WritesPrefix (command : Command) (src src' out out' : Stream) : Type 0 where
  pub input : List ℕ
  pub outcome : Outcome
  pub read : ReadsAll (intake_of command) src src' input
  pub gives : Gives command input outcome
  pub written : GrowsByPrefix out.bytes out'.bytes outcome.text

-- the source and out at each status; the last case is every status that a command has for its input
abbrev pub Holds : Command → Stream → Stream → Stream → Stream → Status → Type 0
Holds command src src' out out' Usage = ⊥
Holds command src src' out out' ReadFault = StopsAtFault (intake_of command) src src' × (out' ≡ out)
Holds command src src' out out' TooLong = PassesLimit (intake_of command) src src' × (out' ≡ out)
Holds command src src' out out' NoMemory =
    (ReadsSome (intake_of command) src src' × (out' ≡ out)) ⊎ WritesPrefix command src src' out out'
Holds command src src' out out' WriteFault =
    Rose out.faults out'.faults × WritesPrefix command src src' out out'
Holds command src src' out out' status = Answers command src src' out out' status

-- the run does the command of the words; the status is Usage exactly if the words are no known command, and
-- then the source and out are unchanged
abbrev pub Begins : List Form → List (List ℕ) → Stream → Stream → Stream → Stream → Status → Type 0
Begins known words src src' out out' Usage =
    (command_of known words ≡ None) × (src' ≡ src) × (out' ≡ out)
Begins known words src src' out out' status =
    (command : Command) × (command_of known words ≡ Some command)
    × Holds command src src' out out' status

-- err has grown by the line of the first status; or its count rose, err has grown by a prefix of
-- that line, and WriteFault stands in that status's place
abbrev pub Tells : Status → Stream → Stream → Status → Type 0
Tells first err err' status =
    ((status ≡ first) × Appends err.bytes err'.bytes (line_of first))
    ⊎ ((status ≡ WriteFault) × (line_of first ≢ []) × Rose err.faults err'.faults
    × GrowsByPrefix err.bytes err'.bytes (line_of first))

-- a run of a call that knows these commands: the status before its line was written, the source and out at
-- that status, and the writing of the line
pub record ProgramRun (known : List Form) (words : List (List ℕ)) (old new : Streams)
    (status : Status) : Type 0 where
  pub first : Status
  pub begins : Begins known words old.src new.src old.out new.out first
  pub tells : Tells first old.err new.err status

-- completeness: with a known command, an input that it takes and no fault, the run writes the whole text and
-- has its status, or memory ran out
abbrev pub Completes : List Form → List (List ℕ) → Streams → Streams → Status → Type 0
Completes known words old new status =
    (command : Command) (input : List ℕ) → command_of known words ≡ Some command
    → Offers (intake_of command) old.src input
    → ¬ Rose old.src.faults new.src.faults → ¬ Rose old.out.faults new.out.faults
    → ¬ Rose old.err.faults new.err.faults
    → (status ≡ NoMemory)
    ⊎ ((outcome : Outcome) × Gives command input outcome × (status ≡ outcome.status)
    × Appends old.out.bytes new.out.bytes outcome.text)
