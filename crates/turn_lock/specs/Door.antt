-- The rule of the door, which holds between any two atomic steps on its counts. Its words are `came`,
-- `called` and `entered`. The first word has the last 64 bits of the number of callers that drew a number. The words
-- are compared as they stand, so the rest holds while fewer than 2^64 callers drew one.
use Rattle.std.specs.Prelude.{◌≡◌, ◌≢◌, ℕ, ◌+◌, ◌%◌, ◌^◌, ◌<◌, ◌≤◌, Bool, true, false, List, length, slice_index, count_by}
use mathlib.Core.Option.{some}
use lib.ListN.{get_elem?}
use Rattle.atomic_table.specs.Table.{State, Me, Step}
use Rattle.turn_lock.specs.declared.at_door.AtDoor.{AtDoor}
use Rattle.turn_lock.specs.declared.at_door.AtDoor.TheVariants as at_door

-- the caller drew this number, and hasn't come in
abbrev pub HoldsNumber : ℕ → AtDoor → Type 0
HoldsNumber n at_door.Away = ⊥
HoldsNumber n (at_door.Waits m) = m ≡ n
HoldsNumber n (at_door.Called m) = m ≡ n
HoldsNumber n at_door.Entered = ⊥
HoldsNumber n (at_door.ReadsEntered m) = ⊥
HoldsNumber n (at_door.MayCall m) = ⊥

-- what the caller j knows of the counts is true of them. A number is that of one caller, which hasn't come in
abbrev pub Knows : ℕ → ℕ → ℕ → (ℕ → ℕ) → ℕ → AtDoor → Type 0
Knows came called entered holder j at_door.Away = Unit {0}
Knows came called entered holder j (at_door.Waits n) = (entered ≤ n) × (n < came) × (holder n ≡ j)
Knows came called entered holder j (at_door.Called n) = (entered ≤ n) × (n < called) × (holder n ≡ j)
Knows came called entered holder j at_door.Entered = Unit {0}
Knows came called entered holder j (at_door.ReadsEntered n) = n ≤ entered
Knows came called entered holder j (at_door.MayCall n) = (n ≤ entered) × (n < came)

-- callers are called in by their numbers, and come in by them: at most one that was called in hasn't come in.
-- Each number that was drawn, from `entered` on, is with its caller
pub record IsInOrder (came called entered : ℕ) (callers : List AtDoor) : Type 0 where
  pub was_called : entered ≤ called
  pub one : called ≤ entered + 1
  pub has_come : called ≤ came
  -- which caller has a number
  pub holder : ℕ → ℕ
  pub each : (j : ℕ) (v : AtDoor) → get_elem? callers j ≡ some v → Knows came called entered holder j v
  pub each_number : (n : ℕ) → entered ≤ n → n < came
      → (v : AtDoor) × (get_elem? callers (holder n) ≡ some v) × HoldsNumber n v

-- the caller drew a number
abbrev pub has_drawn : AtDoor → Bool
has_drawn at_door.Away = false
has_drawn (at_door.Waits n) = true
has_drawn (at_door.Called n) = true
has_drawn at_door.Entered = true
has_drawn (at_door.ReadsEntered n) = false
has_drawn (at_door.MayCall n) = false

-- how many callers came to the door and drew a number
abbrev pub came_of : List AtDoor → ℕ
came_of callers = count_by has_drawn callers

abbrev pub DoorHolds : List ℕ → List AtDoor → Type 0
DoorHolds words callers =
    (length words ≡ 3) × (slice_index words 0 ≡ came_of callers % 2 ^ 64)
    × (came_of callers < 2 ^ 64 → IsInOrder (came_of callers) (slice_index words 1) (slice_index words 2) callers)

abbrev pub DoorRule : {S : Type 0} → State S AtDoor → Type 0
DoorRule s = DoorHolds s.words s.views

-- the number that a caller has or has read
abbrev pub number_at : AtDoor → ℕ
number_at at_door.Away = 0
number_at (at_door.Waits n) = n
number_at (at_door.Called n) = n
number_at at_door.Entered = 0
number_at (at_door.ReadsEntered n) = n
number_at (at_door.MayCall n) = n

module _ {S : Type 0} where
  abbrev pub Arrives : Step S → Me S AtDoor → ℕ → Me S AtDoor → Type 0
  Arrives st m n m' = m' ≡ (at_door.Away, m.1)

  abbrev pub DrawsNumber : Step S → Me S AtDoor → ℕ → Me S AtDoor → Type 0
  DrawsNumber st m n m' = m' ≡ (at_door.Waits n, m.1)

  -- a caller with a number reads how many were called in
  abbrev pub LooksForCall : Step S → Me S AtDoor → ℕ → Me S AtDoor → Type 0
  LooksForCall st m n m' =
      (number_at m.0 < n → m' ≡ (at_door.Called (number_at m.0), m.1)) × (n ≤ number_at m.0 → m' ≡ m)

  abbrev pub ComesIn : Step S → Me S AtDoor → ℕ → Me S AtDoor → Type 0
  ComesIn st m n m' = m' ≡ (at_door.Entered, m.1)

  abbrev pub ReadsEntered : Step S → Me S AtDoor → ℕ → Me S AtDoor → Type 0
  ReadsEntered st m n m' = m' ≡ (at_door.ReadsEntered n, m.1)

  -- a caller that read how many came in reads how many came
  abbrev pub ReadsCame : Step S → Me S AtDoor → ℕ → Me S AtDoor → Type 0
  ReadsCame st m n m' =
      (n ≢ number_at m.0 → m' ≡ (at_door.MayCall (number_at m.0), m.1)) × (n ≡ number_at m.0 → m' ≡ m)

  abbrev pub CallsIn : Step S → Me S AtDoor → ℕ → Me S AtDoor → Type 0
  CallsIn st m n m' = m' ≡ (at_door.Away, m.1)
