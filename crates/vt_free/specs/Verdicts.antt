-- The verdict on a journal of programs without a text: a legal history of a start with its last line, or the first
-- place where it fails and why. This project's own.
use Rattle.std.specs.Prelude.{◌≡◌, ◌≢◌, ◌↔◌, ℕ, ◌==◌, false, List, count_by, length, take, Some, slice_get}
use Rattle.vt_events.specs.Charge.{charge_of}
use Rattle.vt_events.specs.Plain.{plain_reply}
use Rattle.vt_events.specs.declared.entry.Entry.{Entry}
use Rattle.vt_events.specs.declared.event.Event.{Event}
use Rattle.vt_free.specs.declared.free_verdict.FreeVerdict.{FreeVerdict}
use Rattle.vt_free.specs.declared.free_verdict.FreeVerdict.TheVariants as verdict
use Rattle.vt_journal.specs.Log.{charge_of_all}
use Rattle.vt_journal.specs.Room.{full_at, has_room}
use Rattle.vt_journal.specs.declared.full.Full.{Full}
use Rattle.vt_journal.specs.declared.limits.Limits.{Limits}
use Rattle.vt_journal.specs.declared.tail.Tail.{Tail}
use Rattle.vt_journal.specs.declared.tail.Tail.TheVariants as tail
use Rattle.vt_world.specs.History.{IsLegal, replay}
use Rattle.vt_world.specs.State.{WorldState}
use Rattle.vt_world.specs.Step.{step}

-- after this history a call finds no room within these limits, and these are its numbers
pub record IsFullAt (limits : Limits) (history : List Entry) (full : Full) : Type 0 where
  pub numbers : full ≡ full_at history full.charge
  pub call : Event
  pub charge : charge_of call ≡ full.charge
  pub no_room : has_room limits history full.charge ≡ false

-- the last line is that of this history: its entries and their charge; or the same, and a call that finds no room
abbrev pub HasTail : Limits → List Entry → Tail → Type 0
HasTail limits history (tail.End events bytes) = (events ≡ length history) × (bytes ≡ charge_of_all history)
HasTail limits history (tail.Full full) = IsFullAt limits history full

-- the entries are a legal history of the start, and the last line is theirs
pub record IsFree (start : WorldState) (limits : Limits) (entries : List Entry) (end : Tail) : Type 0 where
  pub legal : IsLegal start entries
  pub ends : HasTail limits entries end

-- how many of these calls the entry's caller made
abbrev pub calls_before : List Entry → Entry → ℕ
calls_before before entry = count_by (λ earlier. earlier.caller == entry.caller) before

-- the number of the first of two reasons for which the entry may not follow these: its number isn't how many calls its
-- caller made, or its answer isn't the machine's
pub data FailsAt (start : WorldState) (before : List Entry) (entry : Entry) : ℕ → Type 0 where
  OtherNumber : entry.seq ≢ calls_before before entry → FailsAt start before entry 1
  OtherAnswer : entry.seq ≡ calls_before before entry → plain_reply entry.reply ≢ (step (replay start before) entry.caller entry.event).reply → FailsAt start before entry 3

-- the verdict: the first entry that may not follow those before it, counted from 0, and the first reason; otherwise the
-- end, with the number of entries, if the last line isn't theirs; otherwise the journal is legal
pub data JudgesFree (start : WorldState) (limits : Limits) (entries : List Entry) (end : Tail) : FreeVerdict → Type 0 where
  Right : IsLegal start entries → HasTail limits entries end → JudgesFree start limits entries end verdict.Legal
  EntryFails : (index why : ℕ) (entry : Entry) → IsLegal start (take index entries) → slice_get entries index ≡ Some entry → FailsAt start (take index entries) entry why → JudgesFree start limits entries end (verdict.Illegal index why)
  AtEnd : IsLegal start entries → ¬ HasTail limits entries end → JudgesFree start limits entries end (verdict.Illegal (length entries) 5)

-- there is one verdict
abbrev pub OneFreeVerdict : Type 0
OneFreeVerdict =
    (start : WorldState) (limits : Limits) (entries : List Entry) (end : Tail) (a b : FreeVerdict)
    → JudgesFree start limits entries end a → JudgesFree start limits entries end b → a ≡ b

-- a verdict is legal exactly if the entries are a legal history and the last line is theirs
abbrev pub LegalIsFree : Type 0
LegalIsFree =
    (start : WorldState) (limits : Limits) (entries : List Entry) (end : Tail) (v : FreeVerdict)
    → JudgesFree start limits entries end v → (v ≡ verdict.Legal) ↔ IsFree start limits entries end
