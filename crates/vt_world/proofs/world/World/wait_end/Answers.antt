use Rattle.std.proofs.Common.{refl}
use Rattle.vt_world.proofs.Owners.{one_kept}
use Rattle.vt_world.proofs.world.World.wait_end.Goals as goal

pub invariant_of-self : goal.invariant_of-self
invariant_of-self c = one_kept c.args.p _ c.collect.ensures.state refl c.self.invariant
