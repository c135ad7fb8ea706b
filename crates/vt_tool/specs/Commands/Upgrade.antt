-- The outcome of `upgrade`: a journal of version 1 in version 2. This project's own: docs/reference/journal.md.
use Rattle.std.specs.Prelude.{◌≡◌, ◌⊎◌, ℕ, List, Ok, Err}
use Rattle.vt_events.specs.declared.entry.Entry.{Entry}
use Rattle.vt_journal.specs.Journal.{journal_text}
use Rattle.vt_journal.specs.Says.{HasFirst, JournalSays}
use Rattle.vt_journal.specs.declared.j_fault.JFault.{JFault}
use Rattle.vt_journal.specs.declared.tail.Tail.{Tail}
use Rattle.vt_tool.specs.Commands.Judging.{column_of}
use Rattle.vt_tool.specs.Outcome.{Outcome, fine_text, no_text}
use Rattle.vt_tool.specs.declared.status.Status.TheVariants as status

-- the input is a journal of version 1: its entries and its end are written in version 2
pub record IsUpgraded (input : List ℕ) (outcome : Outcome) : Type 0 where
  pub entries : List Entry
  pub end : Tail
  pub says : JournalSays input (Ok (record { version = 1; entries = entries; tail = end }))
  pub is : outcome ≡ fine_text (journal_text 2 entries end)

-- the input begins with the first line of version 2, which `upgrade` refuses
pub record IsNewer (input : List ℕ) (outcome : Outcome) : Type 0 where
  pub first : HasFirst 2 input
  pub is : outcome ≡ no_text (status.Refused 40 0 0)

-- the input has another first line, and is no journal: its first fault
pub record IsNoJournal (input : List ℕ) (outcome : Outcome) : Type 0 where
  pub other : ¬ HasFirst 2 input
  pub fault : JFault
  pub says : JournalSays input (Err fault)
  pub is : outcome ≡ no_text (status.Refused fault.kind fault.line (column_of fault.line))

abbrev pub GivesUpgraded : List ℕ → Outcome → Type 0
GivesUpgraded input outcome =
    IsUpgraded input outcome ⊎ (IsNewer input outcome ⊎ IsNoJournal input outcome)
