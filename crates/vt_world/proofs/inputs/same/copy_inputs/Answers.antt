use Rattle.vt_world.proofs.Copied.{copied_more}
use Rattle.vt_world.proofs.inputs.same.copy_inputs.Goals as goal

pub loop-i-preserved : goal.loop-i-preserved
loop-i-preserved c =
    copied_more c.args.others.now c.args.inputs.now c.loop-i.inputs c.loop-i.i c.index-others-i.result c.copy_input.new.input
    c.loop-i-test.true c.requires c.loop-i.invariant c.index-others-i.is c.copy_input.ensures
