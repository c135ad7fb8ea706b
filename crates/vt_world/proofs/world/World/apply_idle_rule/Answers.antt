use Rattle.std.proofs.Common.{ap, ◌∙◌}
use Rattle.vt_world.proofs.Cores.{lives, settled_kept}
use Rattle.vt_world.proofs.Owners.{same_live}
use Rattle.vt_world.proofs.world.World.apply_idle_rule.Goals as goal

pub invariant_of-self : goal.invariant_of-self
invariant_of-self c =
    same_live (ap lives c.settle.ensures ∙ settled_kept c.self.inside.procs) c.self.invariant
