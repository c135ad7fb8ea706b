use Rattle.std.proofs.Common.{refl}
use Rattle.vt_switch.proofs.Stated.{each_target_was_asked_for-owners}
use Rattle.vt_switch.specs.Acts.{Request}
use Rattle.vt_world.proofs.Owners.{still_world}
use Rattle.vt_world.proofs.world.World.request.Goals as goal

pub invariant_of-self : goal.invariant_of-self
invariant_of-self c =
    still_world each_target_was_asked_for-owners (Request c.in-Some.n) refl refl c.request-asked.ensures.state c.self.invariant
