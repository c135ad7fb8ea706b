-- The result of a review of a journal. This project's own.
use Rattle.std.specs.Prelude.{◌≡◌, ⊤, ℕ, List}
use Rattle.session_order.specs.Sessions.{start_of}
use Rattle.session_text.specs.Sessions.{SessionView}
use Rattle.vt_check.specs.declared.verdict.Verdict.{Verdict}
use Rattle.vt_check.specs.declared.verdict.Verdict.TheVariants as verdict
use Rattle.vt_events.specs.declared.entry.Entry.{Entry}
use Rattle.vt_journal.specs.declared.journal.Journal.{Journal}
use Rattle.vt_review.specs.Announcements.{review_text}
use Rattle.vt_review.specs.declared.ear_table.EarTable.{EarTable}
use Rattle.vt_review.specs.declared.reviewed.Reviewed.{Reviewed}
use Rattle.vt_review.specs.declared.reviewed.Reviewed.TheVariants as reviewed
use Rattle.vt_world.specs.History.{replay}
use Rattle.vt_world.specs.State.{WorldState}

-- the verdict that the review has
abbrev pub verdict_of : Reviewed → Verdict
verdict_of (reviewed.Text text) = verdict.Legal
verdict_of (reviewed.Illegal index why) = verdict.Illegal index why

-- the text has the lines of these ears for the session's history
abbrev pub TellsHistory : SessionView → Journal → List EarTable → Reviewed → Type 0
TellsHistory s j tables (reviewed.Text text) =
    text.bytes ≡ review_text tables 0 (start_of s) j.entries
TellsHistory s j tables (reviewed.Illegal index why) = ⊤

-- a reviewer has the lines of these ears for the entries, from this machine on, and the machine after them
pub record HasReviewed (tables : List EarTable) (start : WorldState) (entries : List Entry) (behind : WorldState) (text : List ℕ) : Type 0 where
  pub behind_is : behind ≡ replay start entries
  pub text_is : text ≡ review_text tables 0 start entries
