-- The outcome of `explain` for a journal of a session: the certificate of its switches. This project's own:
-- docs/reference/explain.md.
use Rattle.std.specs.Prelude.{◌≡◌, List}
use Rattle.session_order.specs.Sessions.{setup_of, start_of}
use Rattle.session_text.specs.Sessions.{SessionView}
use Rattle.vt_check.specs.Verdicts.{Judges}
use Rattle.vt_check.specs.declared.verdict.Verdict.{Verdict}
use Rattle.vt_check.specs.declared.verdict.Verdict.TheVariants.{Legal}
use Rattle.vt_explain.specs.CertText.{cert_text}
use Rattle.vt_explain.specs.Certificates.{IsCertificate}
use Rattle.vt_explain.specs.declared.hop_why.HopWhy.{HopWhy}
use Rattle.vt_journal.specs.declared.journal.Journal.{Journal}
use Rattle.vt_tool.specs.Commands.Judged.{judged_text}
use Rattle.vt_tool.specs.Outcome.{Outcome}
use Rattle.vt_world.specs.Laws.{moments}

-- the text of the certificate of a legal journal, or the verdict
pub record IsExplained (s : SessionView) (j : Journal) (outcome : Outcome) : Type 0 where
  pub verdict : Verdict
  pub judged : Judges (setup_of s) j.entries j.tail verdict
  pub items : List HopWhy
  pub cert : verdict ≡ Legal → IsCertificate (moments (start_of s) j.entries) items
  pub is : outcome ≡ judged_text (cert_text items) verdict
