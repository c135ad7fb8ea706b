use Rattle.vt_journal.proofs.OneSpelling.{whole}
use Rattle.vt_explain.proofs.Items.{head_spelling}
use Rattle.vt_explain.proofs.item_lines.read_count.Goals as goal

pub returns : goal.returns
returns c =
    let taken = c.take_head-count in
    rw c.if_none_left.ensures
    (whole head_spelling c.args.line.now c.of-words.result taken.new.words taken.result c.of-words.ensures
    taken.ensures.takes taken.ensures.fit)
