-- The room of a journal within its limits, and its end. This project's own.
use Rattle.std.specs.Prelude.{ℕ, ◌+◌, ◌≤◌, ◌&&◌, nat_le, nat_lt, if◌then◌else◌, Bool, IsTrue, List, length, Option, Some, None}
use Rattle.vt_events.specs.declared.entry.Entry.{Entry}
use Rattle.vt_journal.specs.Log.{Logged, charge_of_all}
use Rattle.vt_journal.specs.declared.full.Full.{Full}
use Rattle.vt_journal.specs.declared.limits.Limits.{Limits}
use Rattle.vt_journal.specs.declared.tail.Tail.{Tail}
use Rattle.vt_journal.specs.declared.tail.Tail.TheVariants as tail

-- one more entry of that charge is within the limits
abbrev pub has_room : Limits → List Entry → ℕ → Bool
has_room limits history charge =
    nat_lt (length history) limits.events && nat_le (charge_of_all history + charge) limits.bytes

-- a log has room for one more entry of that charge
abbrev pub HasRoom : Logged → ℕ → Type 0
HasRoom log charge = IsTrue (has_room log.limits log.entries charge)

-- the entries are within the limits
pub record IsWithin (limits : Limits) (history : List Entry) : Type 0 where
  pub events : length history ≤ limits.events
  pub bytes : charge_of_all history ≤ limits.bytes

-- the numbers of a full journal: its entries, their charge, and the charge of the call that has no room
abbrev pub full_at : List Entry → ℕ → Full
full_at history charge =
    record { events = length history; bytes = charge_of_all history; charge = charge }

-- the numbers of a log that has no room for one more entry of that charge
abbrev pub stop_at : Logged → ℕ → Option Full
stop_at log charge = if has_room log.limits log.entries charge then None else Some (full_at log.entries charge)

-- the end of a journal with this history: at the call that found no room, or after every call
abbrev pub tail_at : List Entry → Option Full → Tail
tail_at history None = tail.End (length history) (charge_of_all history)
tail_at history (Some full) = tail.Full full
