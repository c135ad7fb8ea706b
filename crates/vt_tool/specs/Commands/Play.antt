-- The outcome of `play`: the serial play of a session, and the machine after it. This project's own:
-- docs/reference/sessions.md.
use Rattle.std.specs.Prelude.{ℕ, List, Ok, Option}
use Rattle.session_order.specs.Meant.{plain_history}
use Rattle.session_order.specs.Serial.{IsSerial}
use Rattle.session_order.specs.Sessions.{setup_of}
use Rattle.session_text.specs.Sessions.{IsSessionOf, SessionValue, SessionView, session_says}
use Rattle.vt_events.specs.declared.entry.Entry.{Entry}
use Rattle.vt_journal.specs.Room.{tail_at}
use Rattle.vt_journal.specs.declared.full.Full.{Full}
use Rattle.vt_tool.specs.Commands.Session.{IsPrinted, IsRightRun}
use Rattle.vt_tool.specs.Outcome.{Outcome}

-- the outcome prints the serial play of the session
pub record IsPlayed (s : SessionView) (outcome : Outcome) : Type 0 where
  pub history : List Entry
  pub stop : Option Full
  pub serial : IsSerial (setup_of s) s.turns (record { history = plain_history history; stop = stop })
  pub right : IsRightRun s history (tail_at history stop)
  pub printed : IsPrinted s history (tail_at history stop) outcome

-- the outcome prints the serial play of the input's session
pub record GivesPlayed (input : List ℕ) (outcome : Outcome) : Type 0 where
  pub value : SessionValue
  pub session : SessionView
  pub said : session_says input (Ok value)
  pub is : IsSessionOf session value
  pub played : IsPlayed session outcome
