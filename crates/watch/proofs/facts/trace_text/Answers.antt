use Rattle.watch.proofs.Going.{mark_more}
use Rattle.watch.proofs.facts.trace_text.Goals as goal

pub loop-mark-preserved : goal.loop-mark-preserved
loop-mark-preserved c =
    rw c.count_after-count.ensures
    (mark_more c.args.form c.args.caller c.args.cert.now c.loop-mark.count c.args.marks.now c.loop-mark.mark-index
    c.mark-item.result c.loop-mark.text.bytes c.add_mark.new.text.bytes _ c.loop-mark-test.true c.mark-item.is
    c.in_ok-add_mark.ensures c.loop-mark.invariant)
