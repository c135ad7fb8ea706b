use Rattle.std.proofs.Common.{ap, map, ◌∙◌}
use Rattle.std.specs.Prelude.{is_some}
use Rattle.vt_canvas.specs.Change.{user_map}
use Rattle.vt_world.proofs.Alters.{altered_alike}
use Rattle.vt_world.proofs.Owners.{alike_world}
use Rattle.vt_world.proofs.world.World.set_map.Goals as goal

pub invariant_of-self : goal.invariant_of-self
invariant_of-self c =
    alike_world
    (ap (map is_some) c.set_user.ensures ∙ altered_alike c.in_ok-c.c (user_map c.in_ok-words.words) c.self.inside.terminals)
    c.self.invariant
