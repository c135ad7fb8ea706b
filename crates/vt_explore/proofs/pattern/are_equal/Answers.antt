use Rattle.vt_explore.proofs.Names.{tells}
use Rattle.vt_explore.proofs.pattern.are_equal.Goals as goal

pub returns : goal.returns
returns c = tells c.is_same_name.result c.args.name.now c.args.other.now c.is_same_name.ensures
