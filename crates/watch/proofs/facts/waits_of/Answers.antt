use Rattle.watch.proofs.Going.{value_more}
use Rattle.watch.specs.Facts.{wait_of}
use Rattle.watch.proofs.facts.waits_of.Goals as goal

pub loop-p-preserved : goal.loop-p-preserved
loop-p-preserved c =
    value_more (wait_of c.args.world.now) c.as_slice-all.result.now c.loop-p.p-index c.p-item.result c.loop-p.waits.items
    c.extend_from_slice.new.self.items _ c.loop-p-test.true c.p-item.is
    (rw c.wait_of.ensures at c.in_ok-extend_from_slice.ensures.items) c.loop-p.invariant
