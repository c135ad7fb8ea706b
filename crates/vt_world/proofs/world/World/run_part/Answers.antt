use Rattle.std.proofs.Common.{ap, map, ◌∙◌, take}
use Rattle.std.specs.Prelude.{is_some}
use Rattle.vt_world.proofs.Owners.{alike_world}
use Rattle.vt_world.proofs.Places.{written_alike}
use Rattle.vt_world.proofs.world.World.run_part.Goals as goal

pub invariant_of-self : goal.invariant_of-self
invariant_of-self c =
    alike_world
    (ap (map is_some) c.write-count.ensures.terminals ∙ written_alike c.args.c (take c.write-count.result c.args.b.now) c.self.inside.terminals)
    c.self.invariant
