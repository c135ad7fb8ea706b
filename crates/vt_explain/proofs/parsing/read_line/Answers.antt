use Rattle.vt_journal.proofs.OneSpelling.{cut_is}
use Rattle.vt_explain.proofs.Items.{item_spelling}
use Rattle.vt_explain.proofs.parsing.read_line.Goals as goal

pub returns-in_err-item-clause-none : goal.returns-in_err-item-clause-none
returns-in_err-item-clause-none c =
    rw c.from_residual-in_err-item.ensures
    (λ w rest fit is.
    c.in_err-item.ensures.finds w fit
    (cut_is item_spelling c.args.text.now c.in_ok-cut.cut.line.now c.in_ok-cut.cut.behind.now w rest
    c.in_ok-cut.ensures.found fit is))
