-- The outcome of `drill`: five numbers of the serial play of a session that is made from a number. This
-- project's own: docs/reference/sessions.md.
use Rattle.std.specs.Prelude.{◌≡◌, ℕ, ◌≤◌, List, [], ◌∷◌, ◌++◌, codes, decimal, length, map, sum_by, Option}
use Rattle.std.specs.List.{range_with_len}
use Rattle.in_queue.specs.Queue.{Queue}
use Rattle.session_order.specs.Meant.{plain_history}
use Rattle.session_order.specs.Serial.{IsSerial}
use Rattle.session_order.specs.Sessions.{setup_of, start_of}
use Rattle.session_run.specs.Drill.{IsDrill}
use Rattle.session_text.specs.Sessions.{SessionView}
use Rattle.vt_events.specs.declared.entry.Entry.{Entry}
use Rattle.vt_journal.specs.Journal.{line_text}
use Rattle.vt_journal.specs.Log.{charge_of_all}
use Rattle.vt_journal.specs.Room.{tail_at}
use Rattle.vt_journal.specs.declared.full.Full.{Full}
use Rattle.vt_tool.specs.Commands.Session.{IsRightRun, status_of}
use Rattle.vt_tool.specs.Outcome.{Outcome}
use Rattle.vt_tool.specs.Words.{Range}
use Rattle.vt_world.specs.History.{replay}
use Rattle.vt_world.specs.Inputs.{input_at}
use Rattle.vt_world.specs.State.{WorldState}

-- the numbers of items that each process can have, and the seeds
abbrev pub items_each : Range
items_each = record { low = 1; high = 10000 }

abbrev pub seeds : Range
seeds = record { low = 0; high = 18446744073709551615 }

pub record IsDrillSize (n : ℕ) : Type 0 where
  pub some : 1 ≤ n
  pub few : n ≤ 10000

-- the input queue of a console, and the number of pieces that the queues of all consoles dropped
abbrev pub queue_of : WorldState → ℕ → Queue
queue_of w c = (input_at w.inputs c).queue

abbrev pub dropped_in : WorldState → ℕ
dropped_in w = sum_by (λ queue. queue.dropped) (map (queue_of w) (range_with_len 1 63))

-- a line of a name and a number
abbrev pub number_line : List ℕ → ℕ → List ℕ
number_line name n = line_text (name ∷ decimal n ∷ [])

-- the number of entries, the sum of their charges, the number of switches, the number of dropped pieces, and
-- the console in front
abbrev pub drill_text : List Entry → WorldState → List ℕ
drill_text history w =
    (((number_line (codes "events") (length history)
    ++ number_line (codes "bytes") (charge_of_all history))
    ++ number_line (codes "hops") w.trace.hops)
    ++ number_line (codes "dropped") (dropped_in w))
    ++ number_line (codes "display") w.display.front

-- the numbers of the serial play of the session of n items a process that the seed makes
pub record GivesDrill (n seed : ℕ) (outcome : Outcome) : Type 0 where
  pub session : SessionView
  pub is : IsDrill n seed session
  pub history : List Entry
  pub stop : Option Full
  pub serial :
      IsSerial (setup_of session) session.turns (record { history = plain_history history; stop = stop })
  pub right : IsRightRun session history (tail_at history stop)
  pub status_is : outcome.status ≡ status_of (tail_at history stop)
  pub text : outcome.text ≡ drill_text history (replay (start_of session) history)
