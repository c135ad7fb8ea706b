-- The state of a pass in the words of the lock's contracts: whether it rests, is first, has its turn, or is joined.
use Rattle.std.specs.Prelude.{◌≡◌, ◌==◌, ℕ, ◌⊎◌, Bool, true, false, ◌||◌}
use Rattle.std.specs.Prelude.{List, [], ◌∷◌, ◌++◌, length, Option, Some, None}
use mathlib.Core.Option.{some}
use lib.ListN.{get_elem?}
use Rattle.atomic_table.specs.Seated.{TableId}
use Rattle.turn_lock.specs.declared.entry.Entry.{Entry}
use Rattle.turn_lock.specs.declared.seal.Seal.{Seal}
use Rattle.turn_lock.specs.declared.view.View.{View}
use Rattle.turn_lock.specs.declared.view.Joined.{Joined}
use Rattle.turn_lock.specs.declared.view.Role.{Role}
use Rattle.turn_lock.specs.declared.view.Role.TheVariants.{First, Caller, Spent}
use Rattle.turn_lock.specs.declared.view.Stage.TheVariants.{Idle, Has}
use Rattle.turn_lock.specs.declared.pass.Pass.{Pass}
use Rattle.turn_lock.specs.declared.lock.TurnLock.{TurnLock}
use Rattle.turn_lock.specs.declared.held.Held.{Held}
use Rattle.turn_lock.specs.History.{StartsWith, entries_by, IsWordIn, IsDisplay}
use Rattle.turn_lock.specs.Rule.{IsCaller, Met}
use Rattle.turn_lock.specs.Views.{among, IsFirst, IsLive, made_of, joined_of}

module _ {K W Z : Type 0} where
  -- the knowledge of a pass
  abbrev pub view : Pass K W Z → View W Z
  view p = p.place.me.0

  -- which lock it is
  abbrev pub name : TurnLock K W Z → TableId
  name lock = lock.board.shared.table_id

  -- which lock made the pass
  abbrev pub lock_named : Pass K W Z → TableId
  lock_named p = p.place.table_id

  -- the pass is not inside its lock, and was not joined
  abbrev pub Rests : Pass K W Z → Type 0
  Rests p =
      (p.place.me.1 ≡ []) × (p.place.me.0.stage ≡ Idle) × IsLive p.place.me.0.role

  -- the pass is one of this lock, and rests
  abbrev pub RestsIn : TurnLock K W Z → Pass K W Z → Type 0
  RestsIn lock p = (lock_named p ≡ name lock) × Rests p

  -- the pass rests in this lock, and this is its knowledge
  abbrev pub RestsWith : TurnLock K W Z → View W Z → Pass K W Z → Type 0
  RestsWith lock v p = RestsIn lock p × (view p ≡ v)

  -- the pass is the first one of this lock, and rests
  abbrev pub IsFirstIn : TurnLock K W Z → Pass K W Z → Type 0
  IsFirstIn lock p = RestsIn lock p × IsFirst (view p).role

  -- the pass is one of this lock, and has the value: it has seen the whole history that the value showed
  abbrev pub HasTurnIn : TurnLock K W Z → Pass K W Z → Type 0
  HasTurnIn lock p =
      (p.place.table_id ≡ name lock)
      × ((t : ℕ) × (p.place.me.0.stage ≡ Has t p.place.me.0.seen))
      × (p.place.me.1 ≡ (0, None) ∷ []) × IsLive p.place.me.0.role

  abbrev pub lock_of : Held K W Z → TurnLock K W Z
  lock_of held = held.lock.now

  abbrev pub pass_of : Held K W Z → Pass K W Z
  pass_of held = held.pass.now

  abbrev pub value_of : Held K W Z → K
  value_of held = held.value

  -- the same turn, with another value
  abbrev pub held_with : Held K W Z → K → Held K W Z
  held_with held value = record { lock = held.lock; pass = held.pass; value = value }

module _ {W Z : Type 0} where
  -- the entries of a numbered pass in the history are those that it published
  abbrev pub HasMine : List (Entry W) → Role W Z → List (Entry W) → Type 0
  HasMine log (First made joined) mine = Unit {0}
  HasMine log (Caller number) mine = mine ≡ entries_by number log
  HasMine log Spent mine = Unit {0}

  -- a seal that was met before stands, and the history is the one that was seen then
  abbrev pub Stands : Option (Seal Z) → List (Entry W) → View W Z → Type 0
  Stands seal log v = (z : Seal Z) → v.seal ≡ Some z → (seal ≡ Some z) × (log ≡ v.seen)

  -- a pass that finds a seal with its number has met that seal before
  abbrev pub KnowsOwn : Option (Seal Z) → View W Z → Type 0
  KnowsOwn seal v = (z : Seal Z) → seal ≡ Some z → IsCaller z.by v.role → v.seal ≡ Some z

  -- the history is the one that was seen and exactly one more entry, which has the pass's number and
  -- its next sequence number
  abbrev pub AddsNext : List (Entry W) → View W Z → Type 0
  AddsNext log v =
      (e : Entry W) × (log ≡ v.seen ++ e ∷ []) × (v.role ≡ Caller e.by) × (e.seq ≡ length v.mine)
      × IsDisplay e.display

  -- the seal is the one that was found; if none was, there is none, or one that names the pass
  abbrev pub MaySeal : Option (Seal Z) → View W Z → Type 0
  MaySeal seal v =
      (seal ≡ v.seal)
      ⊎ ((v.seal ≡ None) × ((z : Seal Z) × (seal ≡ Some z) × (v.role ≡ Caller z.by)))

  abbrev pub has_joined : ℕ → List (Joined W Z) → Bool
  has_joined n [] = false
  has_joined n (x ∷ xs) = (n == x.number) || has_joined n xs

  -- the first pass joined a pass of each number that it made
  abbrev pub AllJoined : Role W Z → Type 0
  AllJoined role = (n : ℕ) → among n (made_of role) ≡ true → has_joined n (joined_of role) ≡ true

  -- the knowledge of a joined pass is true of the history and its seal
  pub record IsPartOf (before : ℕ) (log : List (Entry W)) (seal : Option (Seal Z))
      (x : Joined W Z) : Type 0 where
    pub seen : StartsWith log x.seen
    pub mine : x.mine ≡ entries_by x.number log
    pub known : IsWordIn before log x.known
    pub read : StartsWith log x.read
    pub met : Met seal log x.seal x.seen

  -- the caller that the seal names had met it when its pass was joined
  abbrev pub NamesJoined : Option (Seal Z) → List (Joined W Z) → Type 0
  NamesJoined seal joined = (z : Seal Z) → seal ≡ Some z
      → (i : ℕ) × (x : Joined W Z) × (get_elem? joined i ≡ some x)
      × (x.number ≡ z.by) × (x.seal ≡ Some z)
