-- The parts of a history that are shown for each entry. This project's own.
use Rattle.std.specs.Prelude.{ℕ, ◌+◌, ◌==◌, Bool, true, false, List, [], ◌∷◌, Option, Some, None, if◌then◌else◌}
use Rattle.vt_events.specs.declared.entry.Entry.{Entry}
use Rattle.vt_world.specs.State.{WorldState}
use Rattle.vt_world.specs.Step.{step}

-- the number of an entry, the entry, the machine before and after it, and the entry since which the pending
-- console has been the same, before and after it
pub record Sight : Type 0 where
  pub place : ℕ
  pub entry : Entry
  pub before : WorldState
  pub after : WorldState
  pub since_before : ℕ
  pub since : ℕ

abbrev pub is_same : Option ℕ → Option ℕ → Bool
is_same None None = true
is_same None (Some n) = false
is_same (Some m) None = false
is_same (Some m) (Some n) = m == n

-- the machine after an entry
abbrev pub world_after : WorldState → Entry → WorldState
world_after w entry = (step w entry.caller entry.event).world

-- this entry, if it changed the pending console; otherwise the one before
abbrev pub since_after : ℕ → ℕ → WorldState → WorldState → ℕ
since_after place since before after =
    if is_same before.display.pending after.display.pending then since else place

abbrev pub sight_of : ℕ → ℕ → WorldState → Entry → Sight
sight_of place since w entry = record {
  place = place;
  entry = entry;
  before = w;
  after = world_after w entry;
  since_before = since;
  since = since_after place since w (world_after w entry);
}

-- the sights of entries from a place and a machine on
abbrev pub sights : ℕ → ℕ → WorldState → List Entry → List Sight
sights place since w [] = []
sights place since w (entry ∷ entries) =
    sight_of place since w entry
    ∷ sights (place + 1) (since_after place since w (world_after w entry)) (world_after w entry) entries
