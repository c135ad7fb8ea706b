use Rattle.vt_world.proofs.Copied.{copied_more}
use Rattle.session_order.proofs.session_progress.same.copy_walks.Goals as goal

pub loop-i-preserved : goal.loop-i-preserved
loop-i-preserved c =
    copied_more c.args.others.now c.args.walks.now c.loop-i.walks c.loop-i.i c.index-others-i.result c.copy_from.new.self
    c.loop-i-test.true c.requires c.loop-i.invariant c.index-others-i.is c.copy_from.ensures
