use Rattle.std.proofs.Common.{refl}
use Rattle.vt_world.proofs.Owners.{one_kept}
use Rattle.vt_world.proofs.world.World.open.Goals as goal

pub invariant_of-self : goal.invariant_of-self
invariant_of-self c = one_kept c.args.p _ c.add_open.ensures.state refl c.self.invariant

pub invariant_of-self-2 : goal.invariant_of-self-2
invariant_of-self-2 c = one_kept c.args.p _ c.add_open.ensures.state refl c.self.invariant
