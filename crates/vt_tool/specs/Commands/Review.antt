-- The outcome of `review` for a journal of a session: the notices for one ear. This project's own:
-- docs/reference/review.md.
use Rattle.std.specs.Prelude.{◌≡◌, ℕ, ◌≤◌, ◌-◌, ◌^◌, ◌==◌, [], ◌∷◌, if◌then◌else◌}
use Rattle.session_order.specs.Sessions.{setup_of, start_of}
use Rattle.session_text.specs.Sessions.{SessionView}
use Rattle.vt_check.specs.Verdicts.{Judges}
use Rattle.vt_check.specs.declared.verdict.Verdict.{Verdict}
use Rattle.vt_journal.specs.declared.journal.Journal.{Journal}
use Rattle.vt_review.specs.Announcements.{review_text}
use Rattle.vt_review.specs.declared.ear_table.EarTable.{EarTable}
use Rattle.vt_tool.specs.Commands.Judged.{judged_text}
use Rattle.vt_tool.specs.Outcome.{Outcome}
use Rattle.vt_tool.specs.Words.{Range}

-- the kinds of notices, a bit for each, and the console: one, or 0 for all
abbrev pub kinds_heard : Range
kinds_heard = record { low = 0; high = 7 }

abbrev pub consoles_heard : Range
consoles_heard = record { low = 0; high = 63 }

pub record IsEar (kinds console : ℕ) : Type 0 where
  pub known : kinds ≤ 7
  pub fits : console ≤ 63

-- the ear hears notices of these kinds, of one console or of all
abbrev pub ear_of : ℕ → ℕ → EarTable
ear_of kinds console = record {
  kinds = kinds;
  consoles = if console == 0 then 2 ^ 64 - 1 else 2 ^ console;
}

-- the notices of a legal journal for one ear, or the verdict
pub record IsReviewed (ear : EarTable) (s : SessionView) (j : Journal) (outcome : Outcome) : Type 0 where
  pub verdict : Verdict
  pub judged : Judges (setup_of s) j.entries j.tail verdict
  pub is : outcome ≡ judged_text (review_text (ear ∷ []) 0 (start_of s) j.entries) verdict
