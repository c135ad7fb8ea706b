-- The knowledge of a hub's passes, by the passes of its lock. This project's own.
use Rattle.std.specs.Prelude.{◌≡◌, ℕ, List, map, length, count_by}
use Rattle.turn_lock.specs.Views.{IsFirst, among, joined_of, made_of}
use Rattle.turn_lock.specs.Words as lock
use Rattle.turn_lock.specs.Words.{has_joined, lock_named}
use Rattle.turn_lock.specs.declared.pass.Pass.{Pass}
use Rattle.turn_lock.specs.declared.view.Joined.{Joined}
use Rattle.turn_lock.specs.declared.view.Role.TheVariants.{Caller}
use Rattle.turn_lock.specs.declared.view.View.{View}
use Rattle.atomic_table.specs.Seated.{TableId}
use Rattle.vt_events.specs.declared.entry.Entry.{Entry}
use Rattle.vt_hub.specs.Carrying.{plain}
use Rattle.vt_hub.specs.Views.{PassView, StewardView, is_home, is_made, is_out, stand_at}
use Rattle.vt_hub.specs.declared.pass_place.PassPlace.{PassPlace}
use Rattle.vt_journal.specs.declared.full.Full.{Full}

-- the knowledge of a pass of the lock, as that of the hub's pass with this number
abbrev pub known_by : TableId → ℕ → View Entry Full → PassView
known_by hub number v = record {
  hub = hub;
  number = number;
  seen = plain v.seen;
  mine = plain v.mine;
  known = v.known;
  read = plain v.read;
  stop = v.seal;
}

-- the knowledge of a joined pass
abbrev pub joined_by : TableId → Joined Entry Full → PassView
joined_by hub x = record {
  hub = hub;
  number = x.number;
  seen = plain x.seen;
  mine = plain x.mine;
  known = x.known;
  read = plain x.read;
  stop = x.seal;
}

-- the knowledge of the first pass of the lock, as that of the hub's steward
abbrev pub kept_by : TableId → List PassPlace → View Entry Full → StewardView
kept_by hub stands v = record {
  hub = hub;
  stands = stands;
  seen = plain v.seen;
  known = v.known;
  read = plain v.read;
  joined = map (joined_by hub) (joined_of v.role);
}

module _ {K : Type 0} where
  abbrev pub pass_view : ℕ → Pass K Entry Full → PassView
  pass_view number p = known_by (lock_named p) number (lock.view p)

  abbrev pub steward_view : List PassPlace → Pass K Entry Full → StewardView
  steward_view stands p = kept_by (lock_named p) stands (lock.view p)

  -- the pass rests, has this number, and made so many entries
  pub record Sits (number seq : ℕ) (p : Pass K Entry Full) : Type 0 where
    pub rests : lock.Rests p
    pub named : (lock.view p).role ≡ Caller number
    pub counted : seq ≡ length (lock.view p).mine

  -- the first pass rests; the stands show which passes it made and joined, and so many are out
  pub record Keeps (stands : List PassPlace) (out : ℕ) (p : Pass K Entry Full) : Type 0 where
    pub rests : lock.Rests p
    pub first : IsFirst (lock.view p).role
    pub size : length stands ≡ 68
    pub made : (n : ℕ) → among n (made_of (lock.view p).role) ≡ is_made (stand_at stands n)
    pub home : (n : ℕ) → has_joined n (joined_of (lock.view p).role) ≡ is_home (stand_at stands n)
    pub counted : out ≡ count_by is_out stands
