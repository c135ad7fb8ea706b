-- The entries that a judge shows to a witness: each entry that passes, and the machine after it. This project's
-- own.
use Rattle.std.specs.Prelude.{◌≡◌, ◌≤◌, ℕ, List, Some, length, slice_get, take}
use Rattle.vt_events.specs.declared.entry.Entry.{Entry}
use Rattle.vt_world.specs.History.{replay}
use Rattle.vt_world.specs.State.{WorldState}
use Rattle.vt_world.specs.Step.{step}

-- the entry at this place is directly after these, and this is the machine after it
pub record IsNextEntry (start : WorldState) (before : List Entry) (place : ℕ) (entry : Entry) (after : WorldState)
    : Type 0 where
  pub place_is : place ≡ length before
  pub after_is : after ≡ (step (replay start before) entry.caller entry.event).world

-- a witness that has seen some entries, from some machine on, may see this one, which is the next
pub record MaySee {W : Type 0} (saw : W → WorldState → List Entry → W → Type 0) (now : W)
    (place : ℕ) (entry : Entry) (after : WorldState) : Type 0 where
  pub first : W
  pub start : WorldState
  pub before : List Entry
  pub seen : saw first start before now
  pub next : IsNextEntry start before place entry after

-- a witness after memory ran out: it has seen the first entries, and perhaps a part of the next one
pub data HasSeenSome {W : Type 0} (saw : W → WorldState → List Entry → W → Type 0)
    (saw_part : W → WorldState → List Entry → Entry → W → Type 0)
    (first : W) (start : WorldState) (entries : List Entry) (now : W) : Type 0 where
  Whole : (count : ℕ) → count ≤ length entries → saw first start (take count entries) now
      → HasSeenSome saw saw_part first start entries now
  Part : (count : ℕ) (entry : Entry) → slice_get entries count ≡ Some entry
      → saw_part first start (take count entries) entry now → HasSeenSome saw saw_part first start entries now
