use Rattle.std.proofs.Common.{ap, map, ◌∙◌}
use Rattle.std.specs.Prelude.{is_some}
use Rattle.vt_canvas.specs.Change.{resize}
use Rattle.vt_world.proofs.Alters.{altered_alike}
use Rattle.vt_world.proofs.Owners.{alike_world}
use Rattle.vt_world.proofs.world.World.resize.Goals as goal

pub invariant_of-self : goal.invariant_of-self
invariant_of-self c =
    alike_world
    (ap (map is_some) c.resize.ensures.terminals ∙ altered_alike c.in_ok-c.c (resize c.in-Some.fresh.rows c.in-Some.fresh.cols) c.self.inside.terminals)
    c.self.invariant
