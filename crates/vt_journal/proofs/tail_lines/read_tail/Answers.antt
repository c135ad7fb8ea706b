use Rattle.vt_journal.proofs.Once.{tail_spelling}
use Rattle.vt_journal.proofs.OneSpelling.{fit_whole, whole}
use Rattle.vt_journal.proofs.tail_lines.read_tail.Goals as goal

pub returns-clause-finds : goal.returns-clause-finds
returns-clause-finds c =
    rw c.if_none_left.ensures
    (whole tail_spelling c.args.line.now c.of-words.result c.take_tail-end.new.words c.take_tail-end.result c.of-words.ensures
    c.take_tail-end.ensures.takes c.take_tail-end.ensures.fit)

pub returns-clause-fit : goal.returns-clause-fit
returns-clause-fit c =
    rw c.if_none_left.ensures (fit_whole _ c.take_tail-end.new.words c.take_tail-end.result c.take_tail-end.ensures.fit)
