use Rattle.vt_world.proofs.Copied.{copied_more}
use Rattle.vt_world.proofs.keyboard_set.same.copy_scanners.Goals as goal

pub loop-i-preserved : goal.loop-i-preserved
loop-i-preserved c =
    copied_more c.args.others.now c.args.scanners.now c.loop-i.scanners c.loop-i.i c.index-others-i.result c.copy_from.new.self
    c.loop-i-test.true c.requires c.loop-i.invariant c.index-others-i.is c.copy_from.ensures
