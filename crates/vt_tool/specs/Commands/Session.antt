-- The outcomes that the commands over sessions have in common: a run of a session that is printed, and a text
-- that is refused. This project's own: docs/reference/sessions.md.
use Rattle.std.specs.Prelude.{◌≡◌, ℕ, List, ◌++◌, Err}
use Rattle.session_order.specs.Sessions.{IsRightHistory, start_of}
use Rattle.session_run.specs.Final.{final_text}
use Rattle.session_text.specs.Sessions.{SessionView, session_says}
use Rattle.table_fields.specs.declared.fault.TableFault.{TableFault}
use Rattle.vt_events.specs.declared.entry.Entry.{Entry}
use Rattle.vt_journal.specs.Journal.{journal_text}
use Rattle.vt_journal.specs.declared.tail.Tail.{Tail}
use Rattle.vt_journal.specs.declared.tail.Tail.TheVariants as tail
use Rattle.vt_tool.specs.Outcome.{Outcome, no_text}
use Rattle.vt_tool.specs.declared.status.Status.{Status}
use Rattle.vt_tool.specs.declared.status.Status.TheVariants as status
use Rattle.vt_world.specs.History.{replay}

-- Fine if all programs are over, and JournalFull if a call found no room
abbrev pub status_of : Tail → Status
status_of (tail.End events bytes) = status.Fine
status_of (tail.Full full) = status.JournalFull full

-- a right history of a session, with the machine after it
abbrev pub IsRightRun : SessionView → List Entry → Tail → Type 0
IsRightRun s history end = IsRightHistory s (replay (start_of s) history) history end

-- the journal of a history in version 2, and then this text of the machine after it
abbrev pub run_outcome : List Entry → Tail → List ℕ → Outcome
run_outcome history end last =
    record { status = status_of end; text = journal_text 2 history end ++ last }

-- the outcome prints a history of a session: its journal, and the machine after it
abbrev pub IsPrinted : SessionView → List Entry → Tail → Outcome → Type 0
IsPrinted s history end outcome =
    outcome ≡ run_outcome history end (final_text (replay (start_of s) history))

-- the session is refused at its first fault
pub record GivesSessionFault (input : List ℕ) (outcome : Outcome) : Type 0 where
  pub fault : TableFault
  pub found : session_says input (Err fault)
  pub refused : outcome ≡ no_text (status.Refused fault.kind fault.part fault.item)
