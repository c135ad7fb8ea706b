-- A history follows programs: its calls are those of the programs, in their order. This project's
-- own.
use Rattle.std.specs.Prelude.{◌≡◌, ℕ, Bool, true, false, List, take, Some, slice_get}
use Rattle.session_order.specs.Calls.{next_by}
use Rattle.session_text.specs.declared.program.Program.{Program}
use Rattle.vt_events.specs.Plain.{plain_event}
use Rattle.vt_events.specs.declared.entry.Entry.{Entry}
use Rattle.vt_procs.specs.Callers.{caller_at}
use Rattle.vt_procs.specs.Tickets.{is_open}
use Rattle.vt_world.specs.History.{replay}
use Rattle.vt_world.specs.State.{WorldState}
use Rattle.vt_world.specs.Refusals.{ends_wait}

-- p has a ticket that is open
abbrev pub is_waiting : WorldState → ℕ → Bool
is_waiting w p = is_open (caller_at w.callers p).waiting

-- the entry directly after these is its caller's next call, and no waitend of a wait that goes on
pub record IsNextCall (start : WorldState) (programs : List Program) (before : List Entry) (entry : Entry) : Type 0 where
  pub next : next_by programs entry.caller before ≡ Some (plain_event entry.event)
  pub ended :
      ends_wait entry.event ≡ true → is_waiting (replay start before) entry.caller ≡ false

-- each entry is so at its place
abbrev pub Follows : WorldState → List Program → List Entry → Type 0
Follows start programs history =
    (k : ℕ) (entry : Entry) → slice_get history k ≡ Some entry
    → IsNextCall start programs (take k history) entry
