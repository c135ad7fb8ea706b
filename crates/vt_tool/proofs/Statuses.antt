-- The statuses that a command gives for an input.
use Rattle.std.proofs.Common.{ℕ, inl, List, Result, Ok, Err, sym, subst, true≢false, IsTrue, ⊎_elim}
use Rattle.std.specs.Prelude.{IfOk}
use Rattle.vt_io.specs.Stream.{Stream}
use Rattle.vt_tool.specs.Commands.{Gives, intake_of}
use Rattle.vt_tool.specs.Input.{ReadsAll, ReadsSome}
use Rattle.vt_tool.specs.Outcome.{Outcome}
use Rattle.vt_tool.specs.Run.{Answers, Holds}
use Rattle.vt_tool.specs.Status.{is_command_status}
use Rattle.vt_tool.specs.Writing.{EndsGiving}
use Rattle.vt_tool.specs.declared.command.Command.{Command}
use Rattle.vt_tool.specs.declared.intake.Intake.{Intake}
use Rattle.vt_tool.specs.declared.intake.Intake.TheVariants.{InPieces, NoInput, ToEnd}
use Rattle.vt_tool.specs.declared.status.Status.{Status}
use Rattle.vt_tool.specs.declared.status.Status.TheVariants.{Usage, ReadFault, WriteFault, NoMemory, TooLong}

-- a whole answer meets the facts of its status
answers_hold : (command : Command) (src src' out out' : Stream) (status : Status)
    → IsTrue (is_command_status status) → Answers command src src' out out' status
    → Holds command src src' out out' status
answers_hold command src src' out out' Usage own answers = absurd (true≢false (sym own))
answers_hold command src src' out out' ReadFault own answers = absurd (true≢false (sym own))
answers_hold command src src' out out' WriteFault own answers = absurd (true≢false (sym own))
answers_hold command src src' out out' NoMemory own answers = absurd (true≢false (sym own))
answers_hold command src src' out out' TooLong own answers = absurd (true≢false (sym own))
answers_hold command src src' out out' other own answers = answers

reads_some : (i : Intake) (src src' : Stream) (input : List ℕ) → ReadsAll i src src' input
    → ReadsSome i src src'
reads_some (ToEnd limit) src src' input read = (input, read.0)
reads_some (InPieces limit) src src' input read = (input, read.0)
reads_some NoInput src src' input read = read.0

-- a run that reads the whole input and writes the command's outcome meets the facts of its status
pub given_holds : {E : Type 0} (command : Command) (src src' out out' : Stream) (input : List ℕ)
    (answer : Result Outcome E) (status : Status) → ReadsAll (intake_of command) src src' input
    → IfOk answer (Gives command input)
    → IfOk answer (λ a. IsTrue (is_command_status a.status)) → EndsGiving out out' answer status
    → Holds command src src' out out' status
given_holds command src src' out out' input (Ok outcome) status read gives own ends = ⊎_elim
    (λ whole.
    subst (Holds command src src' out out') (sym whole.0)
    (answers_hold command src src' out out' outcome.status own (record {
      input = input;
      text = outcome.text;
      read = read;
      gives = gives;
      written = whole.1;
    })))
    (λ failed.
    subst (Holds command src src' out out') (sym failed.0) (
      failed.1,
      record {
        input = input;
        outcome = outcome;
        read = read;
        gives = gives;
        written = failed.2;
      },
    ))
    ends
given_holds command src src' out out' input (Err e) status read gives own ends =
    subst (Holds command src src' out out') (sym ends.0)
    (inl (reads_some (intake_of command) src src' input read, ends.1))
