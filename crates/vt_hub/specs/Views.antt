-- The knowledge of the passes of a hub. This project's own.
use Rattle.std.specs.Prelude.{ℕ, Bool, true, false, List, [], Option, None, replicate, slice_index_or, slice_set}
use Rattle.atomic_table.specs.Seated.{TableId}
use Rattle.turn_lock.specs.declared.seal.Seal.{Seal}
use Rattle.vt_events.specs.declared.entry.Entry.{Entry}
use Rattle.vt_hub.specs.declared.pass_place.PassPlace.{PassPlace}
use Rattle.vt_hub.specs.declared.pass_place.PassPlace.TheVariants.{Unmade, Out, Home}
use Rattle.vt_journal.specs.declared.full.Full.{Full}
use Rattle.vt_world.specs.State.{WorldState}

-- which hub made the pass; its caller; the history as far as the pass has seen it; the entries that it
-- made; the greatest word that it has read, and the history of that word; where the hub stopped, and by
-- whose call, if it has met that
pub record PassView : Type 0 where
  pub hub : TableId
  pub number : ℕ
  pub seen : List Entry
  pub mine : List Entry
  pub known : ℕ
  pub read : List Entry
  pub stop : Option (Seal Full)

-- which hub it is of; where the pass of each number is; the history as far as the steward has seen
-- it; the greatest word of it that was read, and the history of that word; and the passes that were
-- joined, the newest first, as they were then
pub record StewardView : Type 0 where
  pub hub : TableId
  pub stands : List PassPlace
  pub seen : List Entry
  pub known : ℕ
  pub read : List Entry
  pub joined : List PassView

-- where the pass of number n is
abbrev pub stand_at : List PassPlace → ℕ → PassPlace
stand_at stands n = slice_index_or stands n Unmade

-- a pass of this number was made
abbrev pub is_made : PassPlace → Bool
is_made Unmade = false
is_made s = true

-- it was made, and wasn't joined
abbrev pub is_out : PassPlace → Bool
is_out Out = true
is_out s = false

-- it was joined
abbrev pub is_home : PassPlace → Bool
is_home Home = true
is_home s = false

-- the steward of a hub that was just opened on this world: it has read the display
abbrev pub view_at_open : WorldState → TableId → StewardView
view_at_open start hub = record {
  hub = hub;
  stands = replicate 68 Unmade;
  seen = [];
  known = start.display.front;
  read = [];
  joined = [];
}

-- the steward after it made a pass of number n
abbrev pub with_pass : ℕ → StewardView → StewardView
with_pass n s = record s { stands = slice_set s.stands n Out }

-- that pass: it has seen the steward's history, made nothing, and met no stop
abbrev pub new_pass : ℕ → StewardView → PassView
new_pass n s = record {
  hub = s.hub;
  number = n;
  seen = s.seen;
  mine = [];
  known = s.known;
  read = s.read;
  stop = None;
}
