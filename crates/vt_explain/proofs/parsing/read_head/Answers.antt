use Rattle.vt_journal.proofs.OneSpelling.{cut_is, no_line}
use Rattle.vt_explain.proofs.Items.{head_spelling}
use Rattle.vt_explain.specs.CertText.{head_words}
use Rattle.vt_explain.proofs.parsing.read_head.Goals as goal

pub returns-in_err-cut-clause-none : goal.returns-in_err-cut-clause-none
returns-in_err-cut-clause-none c =
    rw c.from_residual.ensures
    (λ count rest fit is. no_line c.args.text.now (head_words count) rest c.in_err-cut.ensures.none is)

pub returns-in_err-count-clause-none : goal.returns-in_err-count-clause-none
returns-in_err-count-clause-none c =
    rw c.from_residual-in_err-count.ensures
    (λ count rest fit is.
    c.in_err-count.ensures count fit
    (cut_is head_spelling c.args.text.now c.in_ok-cut.cut.line.now c.in_ok-cut.cut.behind.now count rest
    c.in_ok-cut.ensures.found fit is))
