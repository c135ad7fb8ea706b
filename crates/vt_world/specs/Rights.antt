-- Processes that are given to programs after the start. This project's own.
use Rattle.std.specs.List.{list_any, range_with_len}
use Rattle.std.specs.Prelude.{◌≡◌, ◌≢◌, ◌≤◌, ℕ, ◌-◌, ◌==◌, ◌&&◌, Bool, not, List, count_by, length, slice_set}
use Rattle.key_tables.specs.Tables.{Tables}
use Rattle.vt_base.specs.Limits.{consoles}
use Rattle.vt_events.specs.declared.entry.Entry.{Entry}
use Rattle.vt_events.specs.declared.event.Event.{Event}
use Rattle.vt_procs.specs.Rights.{after_admission, has_nothing}
use Rattle.vt_procs.specs.declared.proc_start.ProcStart.{ProcStart}
use Rattle.vt_switch.specs.Calls.{owns}
use Rattle.vt_world.specs.History.{IsLegal, replay}
use Rattle.vt_world.specs.Start.{start_world}
use Rattle.vt_world.specs.State.{WorldState}
use Rattle.vt_world.specs.Step.{step}

-- p has this home and this privilege
abbrev pub admitted : ℕ → ProcStart → WorldState → WorldState
admitted p rights w = record w { callers = after_admission p rights w.callers }

-- a caller's rights matter to its own calls alone: a call of another caller has the same answer and the same
-- effect, whatever they are
abbrev pub RightsAreOwn : Type 0
RightsAreOwn =
    (p : ℕ) (rights : ProcStart) (w : WorldState) (q : ℕ) (e : Event) → q ≢ p
    → step (admitted p rights w) q e
    ≡ record { world = admitted p rights (step w q e).world; reply = (step w q e).reply }

-- whether p is alive, has nothing open, no signal pending and no wait, accepts no key signal, and handles the switches
-- of no console, so that another program can have it
abbrev pub is_unused : WorldState → ℕ → Bool
is_unused w p =
    has_nothing w.callers p && not (list_any (λ c. owns w.display p c) (range_with_len 1 consoles))

-- p made none of these calls
abbrev pub IsSilent : ℕ → List Entry → Type 0
IsSilent p entries = count_by (λ entry. entry.caller == p) entries ≡ 0

-- what holds of a history in which p made no call, if p had these rights from the start: it is legal too, and leaves
-- the same machine, in which p has these rights
pub record IsAlike (p : ℕ) (rights : ProcStart) (start : WorldState) (entries : List Entry) : Type 0 where
  pub legal : IsLegal (admitted p rights start) entries
  pub world : replay (admitted p rights start) entries ≡ admitted p rights (replay start entries)

abbrev pub AdmissionsComeFirst : Type 0
AdmissionsComeFirst =
    (p : ℕ) (rights : ProcStart) (start : WorldState) (entries : List Entry)
    → IsLegal start entries → IsSilent p entries → IsAlike p rights start entries

-- a start with other rights of a process is the start with another list of processes
abbrev pub AdmissionsAreStarts : Type 0
AdmissionsAreStarts =
    (rows cols set front keyboards : ℕ) (processes : List ProcStart) (tables : Tables) (p : ℕ)
    (rights : ProcStart) → 1 ≤ p → p ≤ length processes → length processes ≤ 64
    → start_world rows cols set front keyboards (slice_set processes (p - 1) rights) tables
    ≡ admitted p rights (start_world rows cols set front keyboards processes tables)
