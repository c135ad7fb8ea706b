-- Histories of a machine: lists of entries.
use Rattle.std.specs.Prelude.{◌≡◌, ℕ, ◌==◌, List, [], ◌∷◌, ◌++◌, take, count_by, Some, slice_get}
use Rattle.vt_events.specs.Plain.{plain_reply}
use Rattle.vt_events.specs.declared.entry.Entry.{Entry}
use Rattle.vt_events.specs.declared.event.Event.{Event}
use Rattle.vt_events.specs.declared.reply.Reply.{Reply}
use Rattle.vt_world.specs.State.{WorldState}
use Rattle.vt_world.specs.Step.{HasOutcome, step}

-- replay: the machine after the events of the entries, one after another
abbrev pub replay : WorldState → List Entry → WorldState
replay w [] = w
replay w (entry ∷ entries) = replay (step w entry.caller entry.event).world entries

-- the entry may follow these: its answer is the machine's, and its number is how many calls its
-- caller made before
pub record IsNext (start : WorldState) (before : List Entry) (entry : Entry) : Type 0 where
  pub answer :
      plain_reply entry.reply ≡ (step (replay start before) entry.caller entry.event).reply
  pub number : entry.seq ≡ count_by (λ earlier. earlier.caller == entry.caller) before

-- legal: each entry may follow the entries before it
abbrev pub IsLegal : WorldState → List Entry → Type 0
IsLegal start entries =
    (k : ℕ) (entry : Entry) → slice_get entries k ≡ Some entry
    → IsNext start (take k entries) entry

-- a history without entries is legal, and so is a legal one with an entry that may follow it
abbrev pub LegalGrows : Type 0
LegalGrows =
    (start : WorldState) (entries : List Entry) (entry : Entry) → IsLegal start entries
    → IsNext start entries entry → IsLegal start (entries ++ entry ∷ [])

abbrev pub NothingIsLegal : Type 0
NothingIsLegal = (start : WorldState) → IsLegal start []

-- to replay one entry more is one step more
abbrev pub ReplayGrows : Type 0
ReplayGrows =
    (start : WorldState) (entries : List Entry) (entry : Entry)
    → replay start (entries ++ entry ∷ [])
    ≡ (step (replay start entries) entry.caller entry.event).world

-- these entries are a legal history from this start, and leave this machine
pub record Leaves (start : WorldState) (entries : List Entry) (w : WorldState) : Type 0 where
  pub legal : IsLegal start entries
  pub replayed : w ≡ replay start entries

-- the entry of this call of p, with this number and this answer, whatever room its bytes have
pub record IsEntryOf (p count : ℕ) (e : Event) (r : Reply) (entry : Entry) : Type 0 where
  pub caller : entry.caller ≡ p
  pub number : entry.seq ≡ count
  pub event : entry.event ≡ e
  pub reply : plain_reply entry.reply ≡ plain_reply r

-- with the entry of one more step, the entries are a legal history that leaves the machine after that step
abbrev pub StepsAreEntered : Type 0
StepsAreEntered =
    (start w v : WorldState) (entries : List Entry) (p : ℕ) (e : Event) (r : Reply) (entry : Entry)
    → Leaves start entries w → HasOutcome (step w p e) v r
    → IsEntryOf p (count_by (λ earlier. earlier.caller == p) entries) e r entry
    → Leaves start (entries ++ entry ∷ []) v
