-- Histories of a shared machine. This project's own.
use Rattle.std.specs.Prelude.{◌≡◌, ℕ, ◌/◌, ◌%◌, ◌≤◌, ◌==◌, Bool, false, List, [], ◌∷◌, ◌++◌, filter, length, take, Some, slice_get}
use Rattle.vt_events.specs.Waits.{is_wait}
use Rattle.vt_events.specs.declared.entry.Entry.{Entry}
use Rattle.vt_world.specs.History.{replay}
use Rattle.vt_world.specs.State.{WorldState, is_waiting}

-- the entries that caller n made, in order
abbrev pub made_by : ℕ → List Entry → List Entry
made_by n history = filter (λ entry. entry.caller == n) history

-- the last of these entries was answered "wait"; if there are none, it is as given
abbrev pub waits_by : Bool → List Entry → Bool
waits_by known [] = known
waits_by known (entry ∷ entries) = waits_by (is_wait entry.reply) entries

-- the last of these entries was answered "wait"
abbrev pub awaits : List Entry → Bool
awaits entries = waits_by false entries

-- the history begins with these entries
abbrev pub BeginsWith : List Entry → List Entry → Type 0
BeginsWith history seen = (later : List Entry) × (history ≡ seen ++ later)

-- no entry was made while its caller's ticket was open
abbrev pub IsFree : WorldState → List Entry → Type 0
IsFree start entries =
    (k : ℕ) (entry : Entry) → slice_get entries k ≡ Some entry
    → is_waiting (replay start (take k entries)) entry.caller ≡ false

-- a word of the history: 64 times a number of entries, which the history has, plus the display after
-- that many
pub record IsRead (start : WorldState) (history : List Entry) (word : ℕ) : Type 0 where
  pub within : word / 64 ≤ length history
  pub shown : word % 64 ≡ (replay start (take (word / 64) history)).display.front
