-- The laws that a proof cites, as the functions state them.
use Rattle.std.specs.Prelude.{ℕ}
use Rattle.key_compile.proofs.Stated.{one_value}
use Rattle.session_text.proofs.Stated.{one_session}
use Rattle.vt_check.proofs.Stated.{one_verdict-one}
use Rattle.vt_explain.proofs.Stated.{certificates_explain-one, one_acceptance, one_cert-one}
use Rattle.vt_journal.proofs.Stated.{one_journal-one}
use Rattle.vt_tool.proofs.for_laws.Outcomes.{one_accepted, one_explained, one_judged, one_outcome, one_reviewed}
use Rattle.vt_tool.specs.Commands.Judging.{OneOutcomeOf}
use Rattle.vt_tool.specs.declared.commands.judge_request.JudgeRequest.TheVariants as asked

pub one_check : OneOutcomeOf asked.Verdict
one_check = one_outcome one_session one_value one_journal-one asked.Verdict (one_judged one_verdict-one)

pub one_review : (kinds console : ℕ) → OneOutcomeOf (asked.Review kinds console)
one_review kinds console =
    one_outcome one_session one_value one_journal-one (asked.Review kinds console)
    (one_reviewed one_verdict-one kinds console)

pub one_explain : OneOutcomeOf asked.Explanation
one_explain =
    one_outcome one_session one_value one_journal-one asked.Explanation
    (one_explained one_verdict-one certificates_explain-one)

pub one_accept : OneOutcomeOf asked.Acceptance
one_accept =
    one_outcome one_session one_value one_journal-one asked.Acceptance (one_accepted one_acceptance one_cert-one)
