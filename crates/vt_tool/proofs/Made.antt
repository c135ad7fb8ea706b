-- The outcomes of the reviews and explanations of a journal.
use Rattle.std.proofs.Common.{◌≡◌, ◌≢◌, ℕ, List, [], ◌∷◌, ap, ◌∙◌}
use Rattle.session_order.specs.Sessions.{setup_of, start_of}
use Rattle.session_text.specs.Sessions.{SessionView}
use Rattle.vt_check.specs.Verdicts.{Judges}
use Rattle.vt_check.specs.declared.verdict.Verdict.TheVariants as verdict
use Rattle.vt_explain.specs.Accepting.{IfCert, verdict_of}
use Rattle.vt_explain.specs.CertText.{cert_text}
use Rattle.vt_explain.specs.Certificates.{IsCertificate}
use Rattle.vt_explain.specs.declared.explained.Explained.{Explained}
use Rattle.vt_explain.specs.declared.explained.Explained.TheVariants as explained
use Rattle.vt_journal.specs.declared.journal.Journal.{Journal}
use Rattle.vt_review.specs.Announcements.{review_text}
use Rattle.vt_review.specs.Reviews.{TellsHistory, verdict_of as reviewed_verdict}
use Rattle.vt_review.specs.declared.ear_table.EarTable.{EarTable}
use Rattle.vt_review.specs.declared.reviewed.Reviewed.{Reviewed}
use Rattle.vt_review.specs.declared.reviewed.Reviewed.TheVariants as reviewed
use Rattle.vt_tool.specs.Commands.Explain.{IsExplained}
use Rattle.vt_tool.specs.Commands.Review.{IsReviewed}
use Rattle.vt_tool.specs.Commands.Judged.{judged_text}
use Rattle.vt_tool.specs.Outcome.{Outcome, fine_text, no_text}
use Rattle.vt_tool.specs.declared.status.Status.TheVariants as status
use Rattle.vt_world.specs.Laws.{moments}

-- the outcomes of a review and of an explanation
abbrev pub review_outcome : Reviewed → Outcome
review_outcome (reviewed.Text text) = fine_text text.bytes
review_outcome (reviewed.Illegal index why) = no_text (status.Illegal index why)

abbrev pub explain_outcome : Explained → Outcome
explain_outcome (explained.Cert c) = fine_text (cert_text c.items)
explain_outcome (explained.Illegal index why) = no_text (status.Illegal index why)

pub made_review : (ear : EarTable) (s : SessionView) (j : Journal) (ears : List EarTable) (r : Reviewed)
    (o : Outcome) → ears ≡ ear ∷ [] → Judges (setup_of s) j.entries j.tail (reviewed_verdict r)
    → TellsHistory s j ears r → o ≡ review_outcome r → IsReviewed ear s j o
made_review ear s j ears (reviewed.Text text) o same judged tells is = record {
  verdict = verdict.Legal;
  judged = judged;
  is = is
      ∙ ap (λ (bytes : List ℕ). judged_text bytes verdict.Legal)
      (tells ∙ ap (λ (tables : List EarTable). review_text tables 0 (start_of s) j.entries) same);
}
made_review ear s j ears (reviewed.Illegal index why) o same judged tells is =
    record { verdict = verdict.Illegal index why; judged = judged; is = is }

never_legal : (index why : ℕ) → verdict.Illegal index why ≢ verdict.Legal
never_legal index why clash = let impossible : ⊥ = cc in impossible

pub made_explained : (s : SessionView) (j : Journal) (x : Explained) (o : Outcome)
    → Judges (setup_of s) j.entries j.tail (verdict_of x)
    → IfCert x (IsCertificate (moments (start_of s) j.entries)) → o ≡ explain_outcome x → IsExplained s j o
made_explained s j (explained.Cert c) o judged cert is = record {
  verdict = verdict.Legal;
  judged = judged;
  items = c.items;
  cert = λ _. cert;
  is = is;
}
made_explained s j (explained.Illegal index why) o judged cert is = record {
  verdict = verdict.Illegal index why;
  judged = judged;
  items = [];
  cert = λ legal. absurd (never_legal index why legal);
  is = is;
}
