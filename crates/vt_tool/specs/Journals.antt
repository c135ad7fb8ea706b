-- The display law of a run that printed a journal: docs/reference/program.md.
use Rattle.std.specs.Prelude.{◌≡◌, ⊤, ℕ, List, ◌++◌, Ok, Some}
use Rattle.std.specs.Io.KnownBytes.{Appends}
use Rattle.session_order.specs.Sessions.{start_of}
use Rattle.session_run.specs.Final.{final_text}
use Rattle.session_text.specs.Sessions.{IsSessionOf, SessionValue, SessionView, session_says}
use Rattle.vt_events.specs.declared.entry.Entry.{Entry}
use Rattle.vt_io.specs.Stream.{Stream}
use Rattle.vt_journal.specs.Journal.{journal_text}
use Rattle.vt_journal.specs.declared.tail.Tail.{Tail}
use Rattle.vt_tool.specs.Commands.{intake_of}
use Rattle.vt_tool.specs.Displays.{KeepsDisplayLaw}
use Rattle.vt_tool.specs.Input.{ReadsAll}
use Rattle.vt_tool.specs.Run.{Streams}
use Rattle.vt_tool.specs.Words.{Form, command_of}
use Rattle.vt_tool.specs.declared.command.Command.{Command}
use Rattle.vt_tool.specs.declared.command.Command.TheVariants as command
use Rattle.vt_tool.specs.declared.status.Status.{Status}
use Rattle.vt_tool.specs.declared.status.Status.TheVariants.{Fine, JournalFull}
use Rattle.vt_world.specs.History.{IsLegal, replay}

-- out has grown by the journal of a legal history of the input's session, and by the machine after it; that
-- history keeps the display law
pub record ShowsDisplays (input : List ℕ) (out out' : Stream) : Type 0 where
  pub value : SessionValue
  pub session : SessionView
  pub said : session_says input (Ok value)
  pub is : IsSessionOf session value
  pub history : List Entry
  pub end : Tail
  pub written :
      Appends out.bytes out'.bytes
      (journal_text 2 history end ++ final_text (replay (start_of session) history))
  pub legal : IsLegal (start_of session) history
  pub law : KeepsDisplayLaw (start_of session) history

-- the command prints a journal of its own
abbrev pub PrintsJournal : Command → Type 0
PrintsJournal command.Play = ⊤
PrintsJournal command.Race = ⊤
PrintsJournal other = ⊥

-- the journal was printed whole
abbrev pub HasJournal : Status → Type 0
HasJournal Fine = ⊤
HasJournal (JournalFull full) = ⊤
HasJournal other = ⊥

-- if a run of these words has printed a journal, its history keeps the display law
abbrev pub TellsDisplays : List Form → List (List ℕ) → Streams → Streams → Status → Type 0
TellsDisplays known words old new status =
    (command : Command) → command_of known words ≡ Some command → PrintsJournal command
    → HasJournal status
    → (input : List ℕ) × ReadsAll (intake_of command) old.src new.src input
    × ShowsDisplays input old.out new.out
