-- The facts about a race of all callers after each of them has ended; they make the history right. This
-- project's own.
use Rattle.std.specs.Prelude.{◌≡◌, ℕ, true, false, List, [], ◌∷◌, ◌++◌, is_some, map, take, Option, Some, None, slice_get}
use Rattle.session_order.specs.Calls.{call_of, made_by}
use Rattle.session_order.specs.Ends.{Ends, Setup}
use Rattle.session_order.specs.Follows.{Follows, is_waiting}
use Rattle.session_text.specs.Programs.{next, program_of}
use Rattle.session_text.specs.declared.program.Program.{Program}
use Rattle.vt_events.specs.Charge.{charge_of}
use Rattle.vt_events.specs.Plain.{plain_event}
use Rattle.vt_events.specs.declared.entry.Entry.{Entry}
use Rattle.vt_events.specs.declared.event.Event.{Event}
use Rattle.vt_journal.specs.Room.{IsWithin, full_at, has_room, tail_at}
use Rattle.vt_journal.specs.declared.full.Full.{Full}
use Rattle.vt_world.specs.History.{replay}
use Rattle.vt_world.specs.State.{WorldState}

-- each call was made while its caller's ticket wasn't open
abbrev pub IsFree : WorldState → List Entry → Type 0
IsFree start history =
    (k : ℕ) (entry : Entry) → slice_get history k ≡ Some entry
    → is_waiting (replay start (take k history)) entry.caller ≡ false

-- the entries of one caller are the calls of its program, in their order
abbrev pub IsRun : Program → List Entry → Type 0
IsRun program made =
    (k : ℕ) (entry : Entry) → slice_get made k ≡ Some entry
    → next program (map call_of (take k made)) ≡ Some (plain_event entry.event)

-- a run goes on with the program's next call
abbrev pub RunsGrow : Type 0
RunsGrow =
    (program : Program) (made : List Entry) (entry : Entry) → IsRun program made
    → next program (map call_of made) ≡ Some (plain_event entry.event)
    → IsRun program (made ++ entry ∷ [])

-- the next call of a program after these entries has that charge
pub record HasNext (program : Program) (made : List Entry) (charge : ℕ) : Type 0 where
  pub call : Event
  pub next : next program (map call_of made) ≡ Some call
  pub charge_is : charge_of call ≡ charge

-- the history stops because a call of this caller finds no room
pub record StopsAt (o : Setup) (history : List Entry) (full : Full) (caller : ℕ) : Type 0 where
  pub known : is_some (program_of o.programs caller) ≡ true
  pub goes : is_waiting (replay o.start history) caller ≡ false
  pub no_room : has_room o.limits history full.charge ≡ false
  pub numbers : full ≡ full_at history full.charge

-- the one history of all callers after they have ended, and the caller whose call stopped it, if one did
pub record IsClosed (o : Setup) (history : List Entry) (stop : Option Full) (caller : ℕ) : Type 0 where
  pub within : IsWithin o.limits history
  pub free : IsFree o.start history
  pub known : (p : ℕ) → program_of o.programs p ≡ None → made_by p history ≡ []
  pub stops : (full : Full) → stop ≡ Some full → StopsAt o history full caller

-- one caller after it has ended: it ran its program to the end, or to the call that found no room
pub record HasEnded (program : Program) (made : List Entry) (stop : Option Full) (is_named : Type 0) : Type 0 where
  pub run : IsRun program made
  pub over : stop ≡ None → next program (map call_of made) ≡ None
  pub left : (full : Full) → stop ≡ Some full → is_named → HasNext program made full.charge

-- after all callers have ended, the history follows the programs and ends
abbrev pub RaceIsRight : Type 0
RaceIsRight =
    (o : Setup) (history : List Entry) (stop : Option Full) (caller : ℕ)
    → IsClosed o history stop caller
    → ((p : ℕ) (program : Program) → program_of o.programs p ≡ Some program
    → HasEnded program (made_by p history) stop (p ≡ caller))
    → Follows o.start o.programs history × Ends o history (tail_at history stop)
