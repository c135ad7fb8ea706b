use Rattle.watch.proofs.Going.{all_texts, text_more}
use Rattle.watch.specs.Facts.{wait_text_at}
use Rattle.watch.proofs.facts.add_waits.Goals as goal

pub loop-p-preserved : goal.loop-p-preserved
loop-p-preserved c =
    text_more (wait_text_at c.args.form c.args.before.now c.args.after.now) c.as_slice-all.result.now c.loop-p.p-index
    c.p-item.result c.loop-p.text.bytes c.add_wait_at.new.text.bytes _ c.loop-p-test.true c.p-item.is
    c.in_ok-add_wait_at.ensures c.loop-p.invariant

pub returns : goal.returns
returns c =
    all_texts (wait_text_at c.args.form c.args.before.now c.args.after.now) c.as_slice-all.result.now c.loop-p.p-index
    _ _ c.loop-p-test.false c.loop-p.invariant
