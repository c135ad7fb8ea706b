use Rattle.std.proofs.Common.{ap}
use Rattle.vt_world.proofs.Cores.{lives}
use Rattle.vt_world.proofs.Owners.{same_live}
use Rattle.vt_world.proofs.world.World.accept.Goals as goal

pub invariant_of-self : goal.invariant_of-self
invariant_of-self c = same_live (ap lives c.accept.ensures) c.self.invariant
