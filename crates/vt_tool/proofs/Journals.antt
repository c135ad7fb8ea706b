-- If a run printed a journal, its history keeps the display law.
use Rattle.std.proofs.Common.{◌≡◌, ℕ, List, Some, ap, subst, ⊎_elim}
use Rattle.std.specs.Io.KnownBytes.{Appends}
use Rattle.session_order.specs.Sessions.{start_of}
use Rattle.session_text.specs.Sessions.{SessionView}
use Rattle.vt_events.specs.declared.entry.Entry.{Entry}
use Rattle.vt_io.specs.Stream.{Stream}
use Rattle.vt_journal.specs.Room.{tail_at}
use Rattle.vt_journal.specs.declared.tail.Tail.{Tail}
use Rattle.vt_tool.proofs.Complete.{one_command}
use Rattle.vt_tool.proofs.Displays.{keeps}
use Rattle.vt_tool.specs.Commands.{Gives, intake_of}
use Rattle.vt_tool.specs.Commands.Session.{GivesSessionFault, IsRightRun}
use Rattle.vt_tool.specs.Displays.{KeepsDisplayLaw}
use Rattle.vt_tool.specs.Input.{ReadsAll}
use Rattle.vt_tool.specs.Journals.{HasJournal, PrintsJournal, ShowsDisplays, TellsDisplays}
use Rattle.vt_tool.specs.Outcome.{Outcome}
use Rattle.vt_tool.specs.Run.{Answers, Begins, ProgramRun, Streams}
use Rattle.vt_tool.specs.Words.{Form, command_of}
use Rattle.vt_tool.specs.declared.command.Command.{Command}
use Rattle.vt_tool.specs.declared.command.Command.TheVariants as command
use Rattle.vt_tool.specs.declared.status.Status.{Status}
use Rattle.vt_tool.specs.declared.status.Status.TheVariants.{Fine, Usage, ReadFault, WriteFault, NoMemory, Refused, TooLong, JournalFull, Illegal}
use Rattle.vt_world.proofs.Stated.{displays_are_lawful-acts, displays_are_lawful-calls, displays_are_lawful-hops, displays_are_lawful-told, refused_calls_change_nothing-refused}

abbrev outcome : Status → List ℕ → Outcome
outcome status text = record { status = status; text = text }

-- a refusal prints no journal
no_fault : (input text : List ℕ) (status : Status) → HasJournal status
    → GivesSessionFault input (outcome status text) → ⊥
no_fault input text status whole fault =
    subst HasJournal (ap (λ (o : Outcome). o.status) fault.refused) whole

right_keeps : (s : SessionView) (history : List Entry) (end : Tail) → IsRightRun s history end
    → KeepsDisplayLaw (start_of s) history
right_keeps s history end right =
    keeps displays_are_lawful-acts displays_are_lawful-calls displays_are_lawful-told displays_are_lawful-hops
    refused_calls_change_nothing-refused (start_of s) history right.lawful right.explained

shows : (asked : Command) → PrintsJournal asked → (input text : List ℕ) (status : Status)
    (out out' : Stream) → HasJournal status → Gives asked input (outcome status text)
    → Appends out.bytes out'.bytes text → ShowsDisplays input out out'
shows command.Play prints input text status out out' whole gives written = ⊎_elim
    (λ given. record {
      value = given.value;
      session = given.session;
      said = given.said;
      is = given.is;
      history = given.played.history;
      end = tail_at given.played.history given.played.stop;
      written =
          subst (Appends out.bytes out'.bytes)
          (ap (λ (o : Outcome). o.text) given.played.printed) written;
      legal = given.played.right.legal;
      law =
          right_keeps given.session given.played.history
          (tail_at given.played.history given.played.stop) given.played.right;
    })
    (λ fault. absurd (no_fault input text status whole fault)) gives
shows command.Race prints input text status out out' whole gives written = ⊎_elim
    (λ given. record {
      value = given.value;
      session = given.session;
      said = given.said;
      is = given.is;
      history = given.raced.history;
      end = tail_at given.raced.history given.raced.stop;
      written =
          subst (Appends out.bytes out'.bytes)
          (ap (λ (o : Outcome). o.text) given.raced.printed) written;
      legal = given.raced.right.legal;
      law =
          right_keeps given.session given.raced.history
          (tail_at given.raced.history given.raced.stop) given.raced.right;
    })
    (λ fault. absurd (no_fault input text status whole fault)) gives
shows (command.Screen rows cols) prints input text status out out' whole gives written =
    absurd prints
shows command.Keys prints input text status out out' whole gives written = absurd prints
shows command.Typing prints input text status out out' whole gives written = absurd prints
shows command.Check prints input text status out out' whole gives written = absurd prints
shows (command.Drill n seed) prints input text status out out' whole gives written =
    absurd prints
shows command.Upgrade prints input text status out out' whole gives written = absurd prints
shows command.Cook prints input text status out out' whole gives written = absurd prints
shows command.DumpKeys prints input text status out out' whole gives written = absurd prints
shows (command.Review kinds console) prints input text status out out' whole gives written =
    absurd prints
shows command.Explain prints input text status out out' whole gives written = absurd prints
shows command.Accept prints input text status out out' whole gives written = absurd prints

module _ (known : List Form) (words : List (List ℕ)) (src src' out out' : Stream)
    (asked : Command) (spelled : command_of known words ≡ Some asked)
    (prints : PrintsJournal asked)
  where
    abbrev Shown : Type 0
    Shown =
        (input : List ℕ) × ReadsAll (intake_of asked) src src' input
        × ShowsDisplays input out out'

    answered : (other : Command) (status : Status) → HasJournal status
        → command_of known words ≡ Some other → Answers other src src' out out' status → Shown
    answered other status whole spelled' answers =
        let same : other ≡ asked = one_command known words other asked spelled' spelled in
        let read : ReadsAll (intake_of asked) src src' answers.input =
        subst (λ (c : Command). ReadsAll (intake_of c) src src' answers.input) same answers.read in
        let gives : Gives asked answers.input (outcome status answers.text) =
        subst (λ (c : Command). Gives c answers.input (outcome status answers.text)) same
        answers.gives in (
          answers.input,
          read,
          shows asked prints answers.input answers.text status out out' whole gives answers.written,
        )

    begun-shows : (first : Status) → HasJournal first
        → Begins known words src src' out out' first → Shown
    begun-shows Fine whole (other, spelled', holds) = answered other Fine whole spelled' holds
    begun-shows (JournalFull full) whole (other, spelled', holds) =
        answered other (JournalFull full) whole spelled' holds
    begun-shows Usage whole begins = absurd whole
    begun-shows ReadFault whole begins = absurd whole
    begun-shows WriteFault whole begins = absurd whole
    begun-shows NoMemory whole begins = absurd whole
    begun-shows (Refused code a b) whole begins = absurd whole
    begun-shows TooLong whole begins = absurd whole
    begun-shows (Illegal index why) whole begins = absurd whole

-- if a run printed a journal, its history keeps the display law
pub tells_displays : (known : List Form) (words : List (List ℕ)) (old new : Streams)
    (status : Status) → ProgramRun known words old new status
    → TellsDisplays known words old new status
tells_displays known words old new status run asked spelled prints whole =
    let same : status ≡ run.first =
    ⊎_elim (λ told. told.0) (λ failed. absurd (subst HasJournal failed.0 whole)) run.tells in
    begun-shows known words old.src new.src old.out new.out asked spelled prints run.first
    (subst HasJournal same whole) run.begins
