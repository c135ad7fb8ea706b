use Rattle.std.proofs.Common.{Some, None, [], sym, subst}
use Rattle.vt_journal.proofs.OneSpelling.{whole}
use Rattle.vt_journal.specs.Readers.{Finds}
use Rattle.vt_journal.specs.Words.{joined_by_blanks}
use Rattle.vt_explain.proofs.Items.{item_spelling, left_none, left_some}
use Rattle.vt_explain.specs.CertText.{IsFit, item_words}
use Rattle.vt_explain.proofs.item_lines.read_item.Goals as goal

pub returns-in_err-item-clause-finds : goal.returns-in_err-item-clause-finds
returns-in_err-item-clause-finds c =
    rw c.from_residual.ensures
    (whole item_spelling c.args.line.now c.of-words.result [] None c.of-words.ensures c.in_err-item.ensures.takes tt)

pub returns-then-is_some-clause-finds : goal.returns-then-is_some-clause-finds
returns-then-is_some-clause-finds c =
    subst (Finds (λ w. joined_by_blanks (item_words w)) IsFit c.args.line.now)
    (left_some c.next.result c.take_item.new.words _ (Some c.in_ok-item.item) c.next.ensures (sym c.if-is_some.ensures))
    (whole item_spelling c.args.line.now c.of-words.result c.take_item.new.words (Some c.in_ok-item.item)
    c.of-words.ensures c.in_ok-item.ensures.takes c.in_ok-item.ensures.fit)

pub returns-clause-finds : goal.returns-clause-finds
returns-clause-finds c =
    subst (Finds (λ w. joined_by_blanks (item_words w)) IsFit c.args.line.now)
    (left_none c.next.result c.take_item.new.words _ (Some c.in_ok-item.item) c.next.ensures (sym c.if-is_some.ensures))
    (whole item_spelling c.args.line.now c.of-words.result c.take_item.new.words (Some c.in_ok-item.item)
    c.of-words.ensures c.in_ok-item.ensures.takes c.in_ok-item.ensures.fit)
