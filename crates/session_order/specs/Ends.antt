-- How the history of a session ends. This project's own.
use Rattle.std.specs.Prelude.{◌≡◌, ℕ, true, false, List, length, Some}
use Rattle.session_order.specs.Calls.{all_over, next_by}
use Rattle.session_order.specs.Follows.{is_waiting}
use Rattle.session_text.specs.declared.program.Program.{Program}
use Rattle.vt_events.specs.Charge.{charge_of}
use Rattle.vt_events.specs.declared.entry.Entry.{Entry}
use Rattle.vt_events.specs.declared.event.Event.{Event}
use Rattle.vt_journal.specs.Log.{charge_of_all}
use Rattle.vt_journal.specs.Room.{IsWithin, full_at, has_room}
use Rattle.vt_journal.specs.declared.full.Full.{Full}
use Rattle.vt_journal.specs.declared.limits.Limits.{Limits}
use Rattle.vt_journal.specs.declared.tail.Tail.{Tail}
use Rattle.vt_journal.specs.declared.tail.Tail.TheVariants as tail
use Rattle.vt_world.specs.History.{replay}
use Rattle.vt_world.specs.State.{WorldState}

-- the beginning of a session: the machine at the start, the programs of its callers, and the limits of its
-- journal
pub record Setup : Type 0 where
  pub start : WorldState
  pub programs : List Program
  pub limits : Limits

-- the history stops here: the next call of some caller that doesn't wait finds no room
pub record Stops (o : Setup) (history : List Entry) (full : Full) : Type 0 where
  pub caller : ℕ
  pub call : Event
  pub next : next_by o.programs caller history ≡ Some call
  pub goes : is_waiting (replay o.start history) caller ≡ false
  pub no_room : has_room o.limits history (charge_of call) ≡ false
  pub numbers : full ≡ full_at history (charge_of call)

-- every program is over, and these are the numbers of entries and bytes
pub record Finishes (o : Setup) (history : List Entry) (events bytes : ℕ) : Type 0 where
  pub over : all_over o.programs history ≡ true
  pub entries : events ≡ length history
  pub charge : bytes ≡ charge_of_all history

abbrev pub EndsBy : Setup → List Entry → Tail → Type 0
EndsBy o history (tail.End events bytes) = Finishes o history events bytes
EndsBy o history (tail.Full full) = Stops o history full

-- a history within the limits, and its journal's end
pub record Ends (o : Setup) (history : List Entry) (end : Tail) : Type 0 where
  pub within : IsWithin o.limits history
  pub rightly : EndsBy o history end
