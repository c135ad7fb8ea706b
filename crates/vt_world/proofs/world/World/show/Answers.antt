use Rattle.std.proofs.Common.{refl}
use Rattle.vt_switch.proofs.Stated.{each_target_was_asked_for-owners}
use Rattle.vt_switch.specs.Acts.{SetKd}
use Rattle.vt_world.proofs.Owners.{still_world}
use Rattle.vt_world.proofs.world.World.show.Goals as goal

pub invariant_of-self : goal.invariant_of-self
invariant_of-self c =
    still_world each_target_was_asked_for-owners (SetKd c.args.c c.args.graphics) refl refl c.set_kd.ensures c.self.invariant
