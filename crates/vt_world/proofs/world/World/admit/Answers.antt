use Rattle.std.proofs.Common.{refl}
use Rattle.vt_world.proofs.Owners.{one_kept}
use Rattle.vt_world.proofs.world.World.admit.Goals as goal

pub invariant_of-self : goal.invariant_of-self
invariant_of-self c = one_kept c.args.p _ c.set_rights.ensures refl c.self.invariant
