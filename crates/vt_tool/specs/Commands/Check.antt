-- The outcome of `check` for a journal of a session: the verdict on it. This project's own: docs/reference/journal.md.
use Rattle.std.specs.Prelude.{◌≡◌, ℕ, List, [], ◌∷◌, codes, decimal, length}
use Rattle.session_order.specs.Sessions.{setup_of}
use Rattle.session_text.specs.Sessions.{SessionView}
use Rattle.vt_check.specs.Verdicts.{Judges}
use Rattle.vt_check.specs.declared.verdict.Verdict.{Verdict}
use Rattle.vt_check.specs.declared.verdict.Verdict.TheVariants.{Legal}
use Rattle.vt_journal.specs.Journal.{line_text}
use Rattle.vt_journal.specs.declared.journal.Journal.{Journal}
use Rattle.vt_tool.specs.Commands.Session.{IsRightRun}
use Rattle.vt_tool.specs.Commands.Judged.{judged_text}
use Rattle.vt_tool.specs.Outcome.{Outcome}

-- the text for a legal journal of this many entries
abbrev pub legal_text : ℕ → List ℕ
legal_text entries = line_text (codes "legal" ∷ decimal entries ∷ [])

-- the verdict on a journal of a session; if the journal is legal it is of a right run
pub record IsJudged (s : SessionView) (j : Journal) (outcome : Outcome) : Type 0 where
  pub verdict : Verdict
  pub judged : Judges (setup_of s) j.entries j.tail verdict
  pub right : verdict ≡ Legal → IsRightRun s j.entries j.tail
  pub is : outcome ≡ judged_text (legal_text (length j.entries)) verdict
