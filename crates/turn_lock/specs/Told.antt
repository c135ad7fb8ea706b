-- The effect of each step: a relation of the step, the pass before, the number found (at a store, the
-- number stored) and the pass after.
use Rattle.std.specs.Prelude.{◌≡◌, ◌≢◌, true, false, ℕ, ◌/◌, ◌%◌, ◌^◌, ◌≤◌}
use Rattle.std.specs.Prelude.{List, [], ◌∷◌, ◌++◌, length, Option, Some}
use Rattle.std.specs.List.{All}
use Rattle.atomic_table.specs.Table.{Me, Step}
use Rattle.turn_lock.specs.declared.entry.Entry.{Entry}
use Rattle.turn_lock.specs.declared.seal.Seal.{Seal}
use Rattle.turn_lock.specs.declared.view.View.{View}
use Rattle.turn_lock.specs.declared.view.Joined.{Joined}
use Rattle.turn_lock.specs.History.{StartsWith, IsWordIn, IsDisplay, entries_by, word_of}
use Rattle.turn_lock.specs.History.{IsCounted, IsShown}
use Rattle.turn_lock.specs.Views.{among, joined_of, longer, made_of, ticket_of}
use Rattle.turn_lock.specs.Views.{with_ticket, with_turn, with_published, without_turn, with_known_word}
use Rattle.turn_lock.specs.Rule.{Met}
use Rattle.turn_lock.specs.Words.{HasMine, IsPartOf, NamesJoined, Stands, KnowsOwn, has_joined}

-- the history and the seal that a pass finds when its turn comes
pub record FindsHistory {W Z : Type 0} (before : ℕ) (log : List (Entry W)) (seal : Option (Seal Z))
    (v : View W Z) : Type 0 where
  pub seen : StartsWith log v.seen
  pub mine : HasMine log v.role v.mine
  pub known : IsWordIn before log v.known
  pub read : StartsWith log v.read
  pub stands : Stands seal log v
  pub own : KnowsOwn seal v
  pub counted : IsCounted log
  pub shown : IsShown log

-- the knowledge of the first pass is true of the history and the seal that the lock has when it is closed
pub record Closes {W Z : Type 0} (before : ℕ) (log : List (Entry W)) (seal : Option (Seal Z))
    (v : View W Z) : Type 0 where
  pub seen : StartsWith log v.seen
  pub known : IsWordIn before log v.known
  pub read : StartsWith log v.read
  pub met : Met seal log v.seal v.seen
  pub joined : All (IsPartOf before log seal) (joined_of v.role)
  pub named : NamesJoined seal (joined_of v.role)
  pub counted : IsCounted log
  pub shown : IsShown log
  -- a number that was not made has no entry
  pub unmade : (n : ℕ) → among n (made_of v.role) ≡ false → entries_by n log ≡ []

-- the word that a pass reads is that of this history
pub record Reads {W Z : Type 0} (before : ℕ) (Right : List (Entry W) → Type 0) (log : List (Entry W))
    (word : ℕ) (v : View W Z) : Type 0 where
  pub is : word ≡ word_of before log
  pub count : word / 64 ≡ length log
  pub right : Right log
  pub after : StartsWith log v.seen
  pub read : StartsWith log v.read
  pub seen : length v.seen ≤ word / 64
  pub known : v.known / 64 ≤ word / 64
  pub greatest : v.known ≤ word
  pub display : IsDisplay (word % 64)

-- a step, and a pass with the slots that it has
abbrev At : Type 0 → Type 0
At K = Step (Option K)

abbrev Sat : Type 0 → Type 0 → Type 0 → Type 0
Sat K W Z = Me (Option K) (View W Z)

module _ {K W Z : Type 0} where
  -- the pass drew a ticket, and the word has its last 64 bits
  abbrev pub DrawsTicket : At K → Sat K W Z → ℕ → Sat K W Z → Type 0
  DrawsTicket st m n m' = (m'.1 ≡ m.1) × ((t : ℕ) × (n ≡ t % 2 ^ 64) × (m'.0 ≡ with_ticket t m.0))

  -- the pass took the value k
  abbrev pub with_value : (K → List (Entry W)) → (K → Option (Seal Z)) → K → Sat K W Z → Sat K W Z
  with_value entries seal k m =
      (with_turn (ticket_of m.0.stage) (entries k) (seal k) m.0, (0, Some k) ∷ m.1)

  -- if the number is that of the pass's ticket, it has the value; else nothing changed
  abbrev pub LoadsServing : ℕ → (K → List (Entry W)) → (K → Option (Seal Z))
      → At K → Sat K W Z → ℕ → Sat K W Z → Type 0
  LoadsServing before entries seal st m n m' =
      (n ≡ ticket_of m.0.stage % 2 ^ 64
      → (k : K) × (m' ≡ with_value entries seal k m) × FindsHistory before (entries k) (seal k) m.0)
      × (n ≢ ticket_of m.0.stage % 2 ^ 64 → m' ≡ m)

  -- the pass published these entries
  abbrev pub StoresFront : List (Entry W) → At K → Sat K W Z → ℕ → Sat K W Z → Type 0
  StoresFront more st m n m' = m' ≡ (with_published (m.0.seen ++ more) m.0, m.1)

  -- the pass gave the value back, and the number is that of its ticket
  abbrev pub EndsTurn : (K → Option (Seal Z)) → At K → Sat K W Z → ℕ → Sat K W Z → Type 0
  EndsTurn seal st m n m' =
      (k : K) → m.1 ≡ (0, Some k) ∷ []
      → (m' ≡ (without_turn (seal k) m.0, [])) × (n ≡ ticket_of m.0.stage % 2 ^ 64)

  -- of the histories that the first pass and the pass that it joined last had seen, the longer begins
  -- with both, and so does the longer of those that they had read; the number of the joined pass was
  -- made, and no other joined pass has it
  abbrev pub ComparesJoined : At K → Sat K W Z → ℕ → Sat K W Z → Type 0
  ComparesJoined st m n m' =
      (m' ≡ m)
      × ((x : Joined W Z) (xs : List (Joined W Z)) → joined_of m.0.role ≡ x ∷ xs
      → StartsWith (longer x.beside x.seen) x.beside
      × StartsWith (longer x.beside x.seen) x.seen)
      × ((x : Joined W Z) (xs : List (Joined W Z)) → joined_of m.0.role ≡ x ∷ xs
      → StartsWith (longer x.beside_read x.read) x.beside_read
      × StartsWith (longer x.beside_read x.read) x.read)
      × ((x : Joined W Z) (xs : List (Joined W Z)) → joined_of m.0.role ≡ x ∷ xs
      → (among x.number (made_of m.0.role) ≡ true) × (has_joined x.number xs ≡ false))

  -- the pass read the word
  abbrev pub LoadsFront : ℕ → (List (Entry W) → Type 0) → At K → Sat K W Z → ℕ → Sat K W Z → Type 0
  LoadsFront before Right st m n m' =
      (log : List (Entry W)) × (m' ≡ (with_known_word log n m.0, m.1)) × Reads before Right log n m.0
