use Rattle.std.proofs.Common.{◌++◌, decimal}
use Rattle.vt_explain.proofs.Items.{after_three}
use Rattle.vt_explain.specs.CertText.{cause_words}
use Rattle.vt_explain.proofs.item_lines.take_item.Goals as goal

pub returns-in_err-to-clause-takes : goal.returns-in_err-to-clause-takes
returns-in_err-to-clause-takes c =
    rw c.from_residual-in_err-to.ensures
    (λ w rest fit is.
    c.in_err-to.ensures.takes w.to (cause_words w.cause ++ rest) fit.to
    (after_three c.args.words.now c.take_number.new.words c.take_number-2.new.words c.take_console.new.words
    (decimal c.in_ok-at.at) (decimal c.in_ok-nth.nth) (decimal c.in_ok-from.from) (decimal w.at)
    (decimal w.nth) (decimal w.from) _ c.in_ok-at.ensures.takes c.in_ok-nth.ensures.takes
    c.in_ok-from.ensures.takes is))
