use Rattle.vt_world.proofs.Copied.{copied_more}
use Rattle.vt_world.proofs.terminals.same.copy_places.Goals as goal

pub loop-i-preserved : goal.loop-i-preserved
loop-i-preserved c =
    copied_more c.args.others.now c.args.places.now c.loop-i.places c.loop-i.i c.index-others-i.result c.copy_place.new.place
    c.loop-i-test.true c.requires.same c.loop-i.invariant c.index-others-i.is c.copy_place.ensures
