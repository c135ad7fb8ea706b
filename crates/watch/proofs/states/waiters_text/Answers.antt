use Rattle.watch.proofs.Going.{all_texts, text_more}
use Rattle.watch.specs.States.{waiter_text_at}
use Rattle.watch.proofs.states.waiters_text.Goals as goal

pub loop-p-preserved : goal.loop-p-preserved
loop-p-preserved c =
    text_more (waiter_text_at c.args.form c.args.world.now) c.as_slice-all.result.now c.loop-p.p-index c.p-item.result
    c.loop-p.text.bytes c.add_waiter.new.text.bytes _ c.loop-p-test.true c.p-item.is
    (rw c.wait_of.ensures at c.in_ok-add_waiter.ensures) c.loop-p.invariant

pub returns : goal.returns
returns c =
    all_texts (waiter_text_at c.args.form c.args.world.now) c.as_slice-all.result.now c.loop-p.p-index _ _
    c.loop-p-test.false c.loop-p.invariant
