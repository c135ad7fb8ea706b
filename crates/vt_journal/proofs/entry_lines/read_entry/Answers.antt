use Rattle.vt_journal.proofs.Once.{entry_spelling}
use Rattle.vt_journal.proofs.OneSpelling.{fit_whole, whole}
use Rattle.vt_journal.proofs.entry_lines.read_entry.Goals as goal

pub returns-clause-finds : goal.returns-clause-finds
returns-clause-finds c =
    rw c.if_none_left.ensures
    (whole (entry_spelling c.args.version) c.args.line.now c.of-words.result c.take_entry.new.words c.in_ok-entry.entry
    c.of-words.ensures c.in_ok-entry.ensures.takes c.in_ok-entry.ensures.fit)

pub returns-clause-fit : goal.returns-clause-fit
returns-clause-fit c =
    rw c.if_none_left.ensures (fit_whole _ c.take_entry.new.words c.in_ok-entry.entry c.in_ok-entry.ensures.fit)
