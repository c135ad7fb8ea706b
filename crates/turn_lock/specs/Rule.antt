-- The rule of the lock, which holds between any two atomic steps. Its state is the words `next`,
-- `serving` and `front`, the slot, and the knowledge of each pass. There is one history: the one that
-- the value shows if it is in the slot, and else the one of the pass that has the value.
use Rattle.std.specs.Prelude.{◌≡◌, ℕ, ◌%◌, ◌^◌, ◌<◌, ◌≤◌, ◌⊎◌, Bool, true, false}
use Rattle.std.specs.Prelude.{List, [], length, slice_index, Option, Some, None}
use mathlib.Core.Option.{some, none}
use lib.ListN.{get_elem?}
use Rattle.atomic_table.specs.Table.{State}
use Rattle.turn_lock.specs.declared.entry.Entry.{Entry}
use Rattle.turn_lock.specs.declared.seal.Seal.{Seal}
use Rattle.turn_lock.specs.declared.view.View.{View}
use Rattle.turn_lock.specs.declared.view.Joined.{Joined}
use Rattle.turn_lock.specs.declared.view.Role.{Role}
use Rattle.turn_lock.specs.declared.view.Role.TheVariants.{First, Caller, Spent}
use Rattle.turn_lock.specs.declared.view.Stage.{Stage}
use Rattle.turn_lock.specs.declared.view.Stage.TheVariants.{Idle, Waits, Has}
use Rattle.turn_lock.specs.History.{StartsWith, IsWordIn, IsCounted, IsShown, entries_by, word_of}
use Rattle.turn_lock.specs.Views.{among, IsLive, joined_away}

module _ {W : Type 0} where
  -- a pass's ticket is one that was drawn and is not yet served, and its own; the pass whose turn
  -- has come has the ticket that is served
  abbrev pub Queued : ℕ → ℕ → (ℕ → ℕ) → Bool → ℕ → Stage W → Type 0
  Queued next serving holder out j Idle = Unit {0}
  Queued next serving holder out j (Waits t) = (serving ≤ t) × (t < next) × (holder t ≡ j)
  Queued next serving holder out j (Has t held) =
      (t ≡ serving) × (t < next) × (holder t ≡ j) × (out ≡ true)

  abbrev pub HasTicket : ℕ → Stage W → Type 0
  HasTicket t Idle = ⊥
  HasTicket t (Waits u) = u ≡ t
  HasTicket t (Has u held) = u ≡ t

  abbrev pub HasTurn : Stage W → Type 0
  HasTurn Idle = ⊥
  HasTurn (Waits t) = ⊥
  HasTurn (Has t held) = Unit {0}

  -- the history of the pass that has the value
  abbrev pub Holds : List (Entry W) → Stage W → Type 0
  Holds log Idle = Unit {0}
  Holds log (Waits t) = Unit {0}
  Holds log (Has t held) = held ≡ log

module _ {W Z : Type 0} where
  -- the first pass knows the numbers that were made and the passes that were joined; every other
  -- pass has a number of its own among these
  abbrev pub Named : (ℕ → Option ℕ) → List ℕ → List (Joined W Z) → ℕ → Role W Z → Type 0
  Named seat_of made joined j (First m js) = (j ≡ 0) × (m ≡ made) × (js ≡ joined)
  Named seat_of made joined j (Caller n) =
      (0 < j) × (n < 2 ^ 32) × (among n made ≡ true) × (seat_of n ≡ Some j)
  Named seat_of made joined j Spent = 0 < j

  abbrev pub IsCaller : ℕ → Role W Z → Type 0
  IsCaller n (First m js) = ⊥
  IsCaller n (Caller k) = k ≡ n
  IsCaller n Spent = ⊥

  -- a fact of each pass
  abbrev pub EachView : List (View W Z) → (ℕ → View W Z → Type 0) → Type 0
  EachView views P = (j : ℕ) (v : View W Z) → get_elem? views j ≡ some v → P j v

  -- a fact of each pass that was joined
  abbrev pub EachJoined : List (Joined W Z) → (Joined W Z → Type 0) → Type 0
  EachJoined joined P = (i : ℕ) (x : Joined W Z) → get_elem? joined i ≡ some x → P x

  -- the place of the number n: the pass j, or one that was joined
  abbrev pub Placed : List (View W Z) → List (Joined W Z) → ℕ → Option ℕ → Type 0
  Placed views joined n (Some j) = (v : View W Z) × (get_elem? views j ≡ some v) × IsCaller n v.role
  Placed views joined n None =
      (i : ℕ) × (x : Joined W Z) × (get_elem? joined i ≡ some x) × (x.number ≡ n)

-- A: numbers, tickets, and one holder of the slot. Tickets are counted without end, and the words
-- have their last 64 bits
pub record PartA {K W Z : Type 0} (joined : List (Joined W Z)) (s : State (Option K) (View W Z))
    : Type 0 where
  pub next : ℕ
  pub serving : ℕ
  -- which pass has a ticket
  pub holder : ℕ → ℕ
  -- whether a pass has the value
  pub out : Bool
  -- which pass has a number
  pub seat_of : ℕ → Option ℕ
  pub made : List ℕ
  pub wide : length s.words ≡ 3
  pub deep : length s.homes ≡ 1
  pub next_is : slice_index s.words 0 ≡ next % 2 ^ 64
  pub serving_is : slice_index s.words 1 ≡ serving % 2 ^ 64
  pub order : serving ≤ next
  pub queued : EachView s.views (λ j v. Queued next serving holder out j v.stage)
  pub named : EachView s.views (λ j v. Named seat_of made joined j v.role)
  -- a pass that was joined knows nothing
  pub gone : EachView s.views (λ j v. v.role ≡ Spent → v ≡ joined_away)
  pub each_ticket : (t : ℕ) → serving ≤ t → t < next
      → (v : View W Z) × (get_elem? s.views (holder t) ≡ some v) × HasTicket t v.stage
  pub each_made : (n : ℕ) → among n made ≡ true → Placed s.views joined n (seat_of n)
  pub each_joined : EachJoined joined (λ x. (among x.number made ≡ true) × (seat_of x.number ≡ None))
  pub joined_once : (i j : ℕ) (x y : Joined W Z) → get_elem? joined i ≡ some x
      → get_elem? joined j ≡ some y → x.number ≡ y.number → i ≡ j
  pub home : out ≡ false → (k : K) × (get_elem? s.homes 0 ≡ some (some (Some k)))
  pub away : out ≡ true → (get_elem? s.homes 0 ≡ some none)
      × ((v : View W Z) × (get_elem? s.views (holder serving) ≡ some v) × HasTurn v.stage)

module _ {W Z : Type 0} where
  -- numbers that were not made have no entry, and those of joined passes have theirs
  pub record OwnsJoined (log : List (Entry W)) (made : List ℕ) (joined : List (Joined W Z))
      : Type 0 where
    pub unmade : (n : ℕ) → among n made ≡ false → entries_by n log ≡ []
    pub mine : EachJoined joined (λ x. x.mine ≡ entries_by x.number log)
    pub seen : EachJoined joined (λ x. StartsWith log x.seen)
    pub beside : EachJoined joined (λ x. StartsWith log x.beside)

  -- the entries of a pass's number are those that it published
  abbrev pub Owns : List (Entry W) → Role W Z → List (Entry W) → Type 0
  Owns log (First made joined) mine = OwnsJoined log made joined
  Owns log (Caller n) mine = mine ≡ entries_by n log
  Owns log Spent mine = Unit {0}

-- B: `front`, and the entries that passes have seen and published
pub record PartB {K W Z : Type 0} (before : ℕ) (entries : K → List (Entry W)) (log : List (Entry W))
    (s : State (Option K) (View W Z)) : Type 0 where
  pub front_is : slice_index s.words 2 ≡ word_of before log
  pub told : (k : K) → get_elem? s.homes 0 ≡ some (some (Some k)) → entries k ≡ log
  pub held : EachView s.views (λ j v. Holds log v.stage)
  pub seen : EachView s.views (λ j v. StartsWith log v.seen)
  pub owned : EachView s.views (λ j v. Owns log v.role v.mine)
  pub counted : IsCounted log

module _ {W Z : Type 0} where
  -- a pass that met a seal met the one that stands, and has seen the whole history
  abbrev pub Met : Option (Seal Z) → List (Entry W) → Option (Seal Z) → List (Entry W) → Type 0
  Met stop log seal seen = (seal ≡ None) ⊎ ((seal ≡ stop) × (seen ≡ log))

-- C: the seal. There is one, or none
pub record PartC {K W Z : Type 0} (seal : K → Option (Seal Z)) (joined : List (Joined W Z))
    (log : List (Entry W)) (s : State (Option K) (View W Z)) : Type 0 where
  pub stop : Option (Seal Z)
  pub at_home : (k : K) → get_elem? s.homes 0 ≡ some (some (Some k)) → seal k ≡ stop
  pub in_turn : EachView s.views (λ j v. HasTurn v.stage → v.seal ≡ stop)
  pub met : EachView s.views (λ j v. Met stop log v.seal v.seen)
  pub joined_met : EachJoined joined (λ x. Met stop log x.seal x.seen)
  -- the caller that it names has met it, or had when its pass was joined
  pub namer : (z : Seal Z) → stop ≡ Some z
      → ((j : ℕ) × (v : View W Z) × (get_elem? s.views j ≡ some v)
      × IsCaller z.by v.role × (v.seal ≡ Some z))
      ⊎ ((i : ℕ) × (x : Joined W Z) × (get_elem? joined i ≡ some x)
      × (x.number ≡ z.by) × (x.seal ≡ Some z))

-- D: the fact of the history, and the words that passes have read, with their histories
pub record PartD {K W Z : Type 0} (before : ℕ) (Right : List (Entry W) → Type 0)
    (joined : List (Joined W Z)) (log : List (Entry W)) (s : State (Option K) (View W Z))
    : Type 0 where
  pub right : Right log
  pub shown : IsShown log
  pub known : EachView s.views (λ j v. IsLive v.role → IsWordIn before log v.known)
  pub read : EachView s.views (λ j v. StartsWith log v.read)
  pub joined_known : EachJoined joined (λ x. IsWordIn before log x.known)
  pub joined_read : EachJoined joined
      (λ x. StartsWith log x.read × StartsWith log x.beside_read)

-- the passes that were joined, the history, and the four parts
abbrev pub Rule : {K W Z : Type 0} → ℕ → (K → List (Entry W)) → (K → Option (Seal Z))
    → (List (Entry W) → Type 0) → State (Option K) (View W Z) → Type 0
Rule {K} {W} {Z} before entries seal Right s =
    (joined : List (Joined W Z)) × (log : List (Entry W))
    × PartA joined s × PartB before entries log s
    × PartC seal joined log s × PartD before Right joined log s
