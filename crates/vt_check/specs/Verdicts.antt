-- The verdict on a journal of a session: right, or the first place where it fails and why. This project's own.
use Rattle.std.specs.Prelude.{◌≡◌, ◌↔◌, ℕ, ◌==◌, true, false, List, [], ◌∷◌, ◌++◌, count_by, is_some, length, take, Some, slice_get}
use Rattle.session_order.specs.Calls.{all_over}
use Rattle.session_order.specs.Ends.{Ends, EndsBy, Setup}
use Rattle.session_order.specs.Follows.{Follows, IsNextCall}
use Rattle.session_text.specs.Programs.{program_of}
use Rattle.vt_check.specs.declared.verdict.Verdict.{Verdict}
use Rattle.vt_check.specs.declared.verdict.Verdict.TheVariants as verdict
use Rattle.vt_events.specs.Plain.{plain_reply}
use Rattle.vt_events.specs.declared.entry.Entry.{Entry}
use Rattle.vt_journal.specs.Room.{IsWithin}
use Rattle.vt_journal.specs.declared.full.Full.{Full}
use Rattle.vt_journal.specs.declared.tail.Tail.{Tail}
use Rattle.vt_journal.specs.declared.tail.Tail.TheVariants as tail
use Rattle.vt_world.specs.History.{IsLegal, replay}
use Rattle.vt_world.specs.Step.{step}

-- the entry's caller is one of the session's, so it has a program, and its number counts the calls that its
-- caller made before
pub record IsCounted (o : Setup) (before : List Entry) (entry : Entry) : Type 0 where
  pub caller : is_some (program_of o.programs entry.caller) ≡ true
  pub number : entry.seq ≡ count_by (λ earlier. earlier.caller == entry.caller) before

-- its answer is the machine's
abbrev pub IsAnswered : Setup → List Entry → Entry → Type 0
IsAnswered o before entry =
    plain_reply entry.reply ≡ (step (replay o.start before) entry.caller entry.event).reply

-- an entry directly after these passes: its call is the next of its program as well, and with it the history is
-- within the limits
pub record Passes (o : Setup) (before : List Entry) (entry : Entry) : Type 0 where
  pub counted : IsCounted o before entry
  pub next : IsNextCall o.start o.programs before entry
  pub answered : IsAnswered o before entry
  pub within : IsWithin o.limits (before ++ entry ∷ [])

-- the number of the first of the four reasons for which the entry fails
pub data FailsAt (o : Setup) (before : List Entry) (entry : Entry) : ℕ → Type 0 where
  NoCaller : ¬ IsCounted o before entry → FailsAt o before entry 1
  NoCall : IsCounted o before entry → ¬ IsNextCall o.start o.programs before entry → FailsAt o before entry 2
  NoAnswer : IsCounted o before entry → IsNextCall o.start o.programs before entry → ¬ IsAnswered o before entry → FailsAt o before entry 3
  NoRoom : IsCounted o before entry → IsNextCall o.start o.programs before entry → IsAnswered o before entry → ¬ IsWithin o.limits (before ++ entry ∷ []) → FailsAt o before entry 5

-- the number of the first reason for which the end fails: a program isn't over, or the last line isn't the end
-- of the history
pub data EndFails (o : Setup) (history : List Entry) : Tail → ℕ → Type 0 where
  NotOver : (events bytes : ℕ) → all_over o.programs history ≡ false → EndFails o history (tail.End events bytes) 4
  Differs : (events bytes : ℕ) → all_over o.programs history ≡ true → ¬ EndsBy o history (tail.End events bytes) → EndFails o history (tail.End events bytes) 5
  NoStop : (full : Full) → ¬ EndsBy o history (tail.Full full) → EndFails o history (tail.Full full) 5

-- each entry passes at its place
abbrev pub AllPass : Setup → List Entry → Type 0
AllPass o entries =
    (k : ℕ) (entry : Entry) → slice_get entries k ≡ Some entry → Passes o (take k entries) entry

-- the verdict: the first entry that fails, counted from 0, and the first reason there; otherwise the end, with
-- the number of entries; otherwise the journal is legal
pub data Judges (o : Setup) (entries : List Entry) (end : Tail) : Verdict → Type 0 where
  Right : AllPass o entries → EndsBy o entries end → Judges o entries end verdict.Legal
  EntryFails : (index why : ℕ) (entry : Entry) → AllPass o (take index entries) → slice_get entries index ≡ Some entry → FailsAt o (take index entries) entry why → Judges o entries end (verdict.Illegal index why)
  AtEnd : (why : ℕ) → AllPass o entries → EndFails o entries end why → Judges o entries end (verdict.Illegal (length entries) why)

-- there is one verdict
abbrev pub OneVerdict : Type 0
OneVerdict =
    (o : Setup) (entries : List Entry) (end : Tail) (a b : Verdict) → Judges o entries end a
    → Judges o entries end b → a ≡ b

-- the history is legal, follows the programs and ends so
pub record IsRightJournal (o : Setup) (entries : List Entry) (end : Tail) : Type 0 where
  pub legal : IsLegal o.start entries
  pub follows : Follows o.start o.programs entries
  pub ends : Ends o entries end

-- a journal is legal exactly if it is right
abbrev pub LegalIsRight : Type 0
LegalIsRight =
    (o : Setup) (entries : List Entry) (end : Tail)
    → Judges o entries end verdict.Legal ↔ IsRightJournal o entries end

-- a verdict is legal exactly if the journal is right
abbrev pub VerdictIsRight : Type 0
VerdictIsRight =
    (o : Setup) (entries : List Entry) (end : Tail) (v : Verdict) → Judges o entries end v
    → (v ≡ verdict.Legal) ↔ IsRightJournal o entries end
