-- The outcome of `race`: some legal run of a session, for any schedule of its threads, and the machine after
-- it. This project's own: docs/reference/sessions.md.
use Rattle.std.specs.Prelude.{ℕ, List, Ok, Option}
use Rattle.session_text.specs.Sessions.{IsSessionOf, SessionValue, SessionView, session_says}
use Rattle.vt_events.specs.declared.entry.Entry.{Entry}
use Rattle.vt_journal.specs.Room.{tail_at}
use Rattle.vt_journal.specs.declared.full.Full.{Full}
use Rattle.vt_tool.specs.Commands.Session.{IsPrinted, IsRightRun}
use Rattle.vt_tool.specs.Outcome.{Outcome}

-- the outcome prints some legal run of the session
pub record IsRaced (s : SessionView) (outcome : Outcome) : Type 0 where
  pub history : List Entry
  pub stop : Option Full
  pub right : IsRightRun s history (tail_at history stop)
  pub printed : IsPrinted s history (tail_at history stop) outcome

-- the outcome prints some legal run of the input's session
pub record GivesRaced (input : List ℕ) (outcome : Outcome) : Type 0 where
  pub value : SessionValue
  pub session : SessionView
  pub said : session_says input (Ok value)
  pub is : IsSessionOf session value
  pub raced : IsRaced session outcome
