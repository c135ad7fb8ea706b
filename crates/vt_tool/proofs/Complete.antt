-- A run is complete: if a known command's input is offered and there is no fault, the run has its outcome.
use Rattle.std.proofs.Common.{◌≡◌, ℕ, ◌⊎◌, inl, inr, List, ◌++◌, ◌<◌, ◌≤◌, length, Option, Some, None, sym, ap, ◌∙◌, subst, append-nil, arith, length-append, ⊎_elim}
use Rattle.std.specs.Io.KnownBytes.{Appends, Consumes, IsAtEnd}
use Rattle.vt_io.specs.Faults.{Rose}
use Rattle.vt_io.specs.Stream.{Stream}
use Rattle.vt_tool.specs.Commands.{Gives, intake_of}
use Rattle.vt_tool.specs.Input.{ReadsAll, StopsAtFault, PassesLimit, Offers}
use Rattle.vt_tool.specs.Outcome.{Outcome}
use Rattle.vt_tool.specs.Run.{Answers, Begins, Completes, ProgramRun, Streams, Tells}
use Rattle.vt_tool.specs.Words.{Form, command_of}
use Rattle.vt_tool.specs.declared.command.Command.{Command}
use Rattle.vt_tool.specs.declared.intake.Intake.{Intake}
use Rattle.vt_tool.specs.declared.intake.Intake.TheVariants.{InPieces, NoInput, ToEnd}
use Rattle.vt_tool.specs.declared.status.Status.{Status}
use Rattle.vt_tool.specs.declared.status.Status.TheVariants.{Fine, Usage, ReadFault, WriteFault, NoMemory, Refused, TooLong, JournalFull, Illegal}

-- two commands of the same words are one
pub one_command : (known : List Form) (words : List (List ℕ)) (a b : Command)
    → command_of known words ≡ Some a → command_of known words ≡ Some b → a ≡ b
one_command known words a b first second = cc

-- a source that stopped at a fault has counted it
stop_rose : (i : Intake) (src src' : Stream) → StopsAtFault i src src' → Rose src.faults src'.faults
stop_rose (ToEnd limit) src src' stops = stops.0
stop_rose (InPieces limit) src src' stops = stops.0
stop_rose NoInput src src' stops = absurd stops

-- the bytes taken of known ones are a prefix of these
taken_prefix : (known : List ℕ) (told told' : Option (List ℕ)) (taken : List ℕ)
    → told ≡ Some known → Consumes told told' taken
    → (rest : List ℕ) × (known ≡ taken ++ rest)
taken_prefix known None told' taken is gave =
    let clash : None ≡ Some known = is in
    absurd (let impossible : ⊥ = cc in impossible)
taken_prefix known (Some xs) None taken is gave = absurd gave
taken_prefix known (Some xs) (Some ys) taken is gave = (ys, (let e : known ≡ xs = cc in e) ∙ gave)

-- no more bytes than offered are taken
within_limit : (limit : ℕ) (src src' : Stream) (input taken : List ℕ) → src.bytes ≡ Some input
    → length input ≤ limit → Consumes src.bytes src'.bytes taken → limit < length taken → ⊥
within_limit limit src src' input taken told fits gave past =
    let (rest, whole) = taken_prefix input src.bytes src'.bytes taken told gave in
    omega (arith, length-append taken rest, ap length whole, past, fits)

not_past : (i : Intake) (src src' : Stream) (input : List ℕ) → Offers i src input
    → PassesLimit i src src' → ⊥
not_past (ToEnd limit) src src' input offered (taken, gave, past) =
    within_limit limit src src' input taken offered.0 offered.1 gave past
not_past (InPieces limit) src src' input offered (taken, gave, past) =
    within_limit limit src src' input taken offered.0 offered.1 gave past
not_past NoInput src src' input offered past = past

-- the input that was read to the end is the one that was offered
whole_input : (known input : List ℕ) (told told' : Option (List ℕ)) → told ≡ Some known
    → Consumes told told' input → IsAtEnd told' → input ≡ known
whole_input known input None told' is gave end =
    let clash : None ≡ Some known = is in
    absurd (let impossible : ⊥ = cc in impossible)
whole_input known input (Some xs) None is gave end = absurd gave
whole_input known input (Some xs) (Some ys) is gave end =
    sym ((let e : known ≡ xs = cc in e) ∙ gave ∙ ap (λ rest. input ++ rest) end ∙ append-nil input)

read_offered : (i : Intake) (src src' : Stream) (known input : List ℕ) → Offers i src known
    → ReadsAll i src src' input → input ≡ known
read_offered (ToEnd limit) src src' known input offered read =
    whole_input known input src.bytes src'.bytes offered.0 read.0 read.1
read_offered (InPieces limit) src src' known input offered read =
    whole_input known input src.bytes src'.bytes offered.0 read.0 read.1
read_offered NoInput src src' known input offered read = read.1 ∙ sym offered

-- if err had no fault, the status is the first one
tells_first : (first : Status) (err err' : Stream) (status : Status)
    → ¬ Rose err.faults err'.faults → Tells first err err' status → status ≡ first
tells_first first err err' status none tells =
    ⊎_elim (λ told. told.0) (λ failed. absurd (none failed.2)) tells

module _ (known : List Form) (words : List (List ℕ)) (src src' out out' : Stream) (status : Status)
    (command : Command) (input : List ℕ) (spelled : command_of known words ≡ Some command)
    (offered : Offers (intake_of command) src input) (no_read : ¬ Rose src.faults src'.faults)
    (no_write : ¬ Rose out.faults out'.faults)
  where
    -- the run has an outcome of the command
    abbrev HasOutcome : Type 0
    HasOutcome =
        (outcome : Outcome) × Gives command input outcome × (status ≡ outcome.status)
        × Appends out.bytes out'.bytes outcome.text

    answered : (other : Command) (first : Status) → status ≡ first
        → command_of known words ≡ Some other → Answers other src src' out out' first → HasOutcome
    answered other first is spelled' answers =
        let same : other ≡ command = one_command known words other command spelled' spelled in
        let read : ReadsAll (intake_of command) src src' answers.input =
        subst (λ (c : Command). ReadsAll (intake_of c) src src' answers.input) same answers.read in
        let all : answers.input ≡ input =
        read_offered (intake_of command) src src' input answers.input offered read in
        let outcome : Outcome = record { status = first; text = answers.text } in
        let gives : Gives command input outcome =
        subst (λ (bytes : List ℕ). Gives command bytes outcome) all
        (subst (λ (c : Command). Gives c answers.input outcome) same answers.gives) in
        (outcome, gives, is, answers.written)

    pub completed : (first : Status) → status ≡ first → Begins known words src src' out out' first
        → (status ≡ NoMemory) ⊎ HasOutcome
    completed Usage is begins =
        let none : command_of known words ≡ None = begins.0 in
        absurd (let impossible : ⊥ = cc in impossible)
    completed ReadFault is (other, spelled', holds) =
        absurd (no_read (stop_rose (intake_of other) src src' holds.0))
    completed TooLong is (other, spelled', holds) =
        let same : other ≡ command = one_command known words other command spelled' spelled in
        absurd (not_past (intake_of command) src src' input offered
        (subst (λ (c : Command). PassesLimit (intake_of c) src src') same holds.0))
    completed NoMemory is begins = inl is
    completed WriteFault is (other, spelled', holds) = absurd (no_write holds.0)
    completed Fine is (other, spelled', holds) = inr (answered other Fine is spelled' holds)
    completed (Refused code a b) is (other, spelled', holds) =
        inr (answered other (Refused code a b) is spelled' holds)
    completed (JournalFull full) is (other, spelled', holds) =
        inr (answered other (JournalFull full) is spelled' holds)
    completed (Illegal index why) is (other, spelled', holds) =
        inr (answered other (Illegal index why) is spelled' holds)

pub run_completes : (known : List Form) (words : List (List ℕ)) (old new : Streams) (status : Status)
    → ProgramRun known words old new status → Completes known words old new status
run_completes known words old new status run command input spelled offered no_read no_write no_tell =
    completed known words old.src new.src old.out new.out status command input spelled offered no_read
    no_write run.first (tells_first run.first old.err new.err status no_tell run.tells) run.begins
