use Rattle.watch.proofs.Going.{text_more}
use Rattle.watch.specs.States.{owner_text_at}
use Rattle.watch.proofs.states.owners_text.Goals as goal

pub loop-console-preserved : goal.loop-console-preserved
loop-console-preserved c =
    text_more (owner_text_at c.args.form c.args.world.now) c.as_slice-all.result.now c.loop-console.console-index
    c.console-item.result c.loop-console.text.bytes c.add_owner.new.text.bytes _ c.loop-console-test.true
    c.console-item.is (rw c.owner.ensures at c.in_ok-add_owner.ensures) c.loop-console.invariant
