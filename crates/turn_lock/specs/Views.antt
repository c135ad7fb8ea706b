-- The knowledge of a pass, and its change by each call.
use Rattle.std.specs.Prelude.{ℕ, ◌==◌, nat_lt, max, Bool, false, ◌||◌, if◌then◌else◌}
use Rattle.std.specs.Prelude.{List, [], ◌∷◌, ◌++◌, length, drop, Option, Some, None}
use Rattle.turn_lock.specs.declared.entry.Entry.{Entry}
use Rattle.turn_lock.specs.declared.seal.Seal.{Seal}
use Rattle.turn_lock.specs.declared.view.View.{View}
use Rattle.turn_lock.specs.declared.view.Joined.{Joined}
use Rattle.turn_lock.specs.declared.view.Role.{Role}
use Rattle.turn_lock.specs.declared.view.Role.TheVariants.{First, Caller, Spent}
use Rattle.turn_lock.specs.declared.view.Stage.{Stage}
use Rattle.turn_lock.specs.declared.view.Stage.TheVariants.{Idle, Waits, Has}

-- the number is one of these
abbrev pub among : ℕ → List ℕ → Bool
among n [] = false
among n (m ∷ ms) = (n == m) || among n ms

module _ {W Z : Type 0} where
  -- a pass that was joined is spent
  abbrev pub IsLive : Role W Z → Type 0
  IsLive (First made joined) = Unit {0}
  IsLive (Caller n) = Unit {0}
  IsLive Spent = ⊥

  abbrev pub IsFirst : Role W Z → Type 0
  IsFirst (First made joined) = Unit {0}
  IsFirst (Caller n) = ⊥
  IsFirst Spent = ⊥

  abbrev pub HasNumber : Role W Z → Type 0
  HasNumber (First made joined) = ⊥
  HasNumber (Caller n) = Unit {0}
  HasNumber Spent = ⊥

  -- the numbers that the first pass made
  abbrev pub made_of : Role W Z → List ℕ
  made_of (First made joined) = made
  made_of (Caller n) = []
  made_of Spent = []

  -- the passes that the first pass joined
  abbrev pub joined_of : Role W Z → List (Joined W Z)
  joined_of (First made joined) = joined
  joined_of (Caller n) = []
  joined_of Spent = []

  abbrev pub number_of : Role W Z → ℕ
  number_of (First made joined) = 0
  number_of (Caller n) = n
  number_of Spent = 0

module _ {W : Type 0} where
  -- the longer of two histories
  abbrev pub longer : List (Entry W) → List (Entry W) → List (Entry W)
  longer xs ys = if nat_lt (length xs) (length ys) then ys else xs

  abbrev pub ticket_of : Stage W → ℕ
  ticket_of Idle = 0
  ticket_of (Waits t) = t
  ticket_of (Has t held) = t

module _ {Z : Type 0} where
  -- the seal, if either has one
  abbrev pub either_seal : Option (Seal Z) → Option (Seal Z) → Option (Seal Z)
  either_seal (Some z) other = Some z
  either_seal None other = other

module _ {W Z : Type 0} where
  -- the first pass of a lock that was opened
  abbrev pub newcomer : ℕ → View W Z
  newcomer before = record {
    role = First [] [];
    stage = Idle;
    seen = [];
    mine = [];
    known = before;
    read = [];
    seal = None;
  }

  -- a pass that was joined
  abbrev pub joined_away : View W Z
  joined_away = record {
    role = Spent;
    stage = Idle;
    seen = [];
    mine = [];
    known = 0;
    read = [];
    seal = None;
  }

  -- the first pass after it made a pass with the number n
  abbrev pub with_number : ℕ → View W Z → View W Z
  with_number n v = record v { role = First (n ∷ made_of v.role) (joined_of v.role) }

  -- the pass with the number n that it made: it has seen as much and knows the same word, published
  -- nothing and met no seal
  abbrev pub as_caller : ℕ → View W Z → View W Z
  as_caller n v = record v { role = Caller n; mine = []; seal = None }

  -- the knowledge of a pass w that the first pass v joins
  abbrev pub joined_view : View W Z → View W Z → Joined W Z
  joined_view v w = record {
    number = number_of w.role;
    seen = w.seen;
    mine = w.mine;
    known = w.known;
    read = w.read;
    seal = w.seal;
    beside = v.seen;
    beside_read = v.read;
  }

  -- the first pass v after it joined w
  abbrev pub both : View W Z → View W Z → View W Z
  both v w = record v {
    role = First (made_of v.role) (joined_view v w ∷ joined_of v.role);
    seen = longer v.seen w.seen;
    known = max v.known w.known;
    read = longer v.read w.read;
    seal = either_seal v.seal w.seal;
  }

  -- the pass with the ticket t
  abbrev pub with_ticket : ℕ → View W Z → View W Z
  with_ticket t v = record v { stage = Waits t }

  -- the pass at its turn: the value shows this history and this seal
  abbrev pub with_turn : ℕ → List (Entry W) → Option (Seal Z) → View W Z → View W Z
  with_turn t log seal v = record v { stage = Has t log; seen = log; seal = seal }

  -- the pass after it published the entries of this history beyond those that it had seen
  abbrev pub with_published : List (Entry W) → View W Z → View W Z
  with_published log v = record v {
    stage = Has (ticket_of v.stage) log;
    seen = log;
    mine = v.mine ++ drop (length v.seen) log;
  }

  -- the pass after it gave back the value, which shows this seal
  abbrev pub without_turn : Option (Seal Z) → View W Z → View W Z
  without_turn seal v = record v { stage = Idle; seal = seal }

  -- the pass after it read this word, which is that of this history
  abbrev pub with_known_word : List (Entry W) → ℕ → View W Z → View W Z
  with_known_word log word v = record v { known = word; read = log }
