-- Histories: lists of entries, each with the display after it.
use Rattle.std.specs.Prelude.{◌≡◌, ◌==◌, ℕ, ◌+◌, ◌*◌, ◌/◌, ◌<◌, ◌≤◌}
use Rattle.std.specs.Prelude.{List, [], ◌∷◌, ◌++◌, length, take, filter}
use mathlib.Core.Option.{some}
use lib.ListN.{get_elem?}
use Rattle.turn_lock.specs.declared.entry.Entry.{Entry}

-- displays are numbered from 1 to 63
abbrev pub IsDisplay : ℕ → Type 0
IsDisplay display = (0 < display) × (display < 64)

module _ {W : Type 0} where
  -- the display after the last entry, or `before` if there is none
  abbrev pub display_after : ℕ → List (Entry W) → ℕ
  display_after before [] = before
  display_after before (e ∷ es) = display_after e.display es

  -- the word of a history: 64 times the number of entries, plus the display after the last one
  abbrev pub word_of : ℕ → List (Entry W) → ℕ
  word_of before log = 64 * length log + display_after before log

  -- the history begins with these entries
  abbrev pub StartsWith : List (Entry W) → List (Entry W) → Type 0
  StartsWith log seen = (later : List (Entry W)) × (log ≡ seen ++ later)

  -- the entries of the caller with this number, in order
  abbrev pub entries_by : ℕ → List (Entry W) → List (Entry W)
  entries_by number log = filter (λ (e : Entry W). e.by == number) log

  -- the word is that of a prefix of the history: the one with as many entries as the word counts
  pub record IsWordIn (before : ℕ) (log : List (Entry W)) (word : ℕ) : Type 0 where
    pub within : word / 64 ≤ length log
    pub is : word_of before (take (word / 64) log) ≡ word

  -- the entries of each number have the sequence numbers 0, 1, 2 and so on
  abbrev pub IsCounted : List (Entry W) → Type 0
  IsCounted log =
      (number i : ℕ) (e : Entry W) → get_elem? (entries_by number log) i ≡ some e → e.seq ≡ i

  -- each entry has a display
  abbrev pub IsShown : List (Entry W) → Type 0
  IsShown log = (i : ℕ) (e : Entry W) → get_elem? log i ≡ some e → IsDisplay e.display
