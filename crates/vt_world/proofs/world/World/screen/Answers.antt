use Rattle.std.proofs.Common.{ap, sym, ◌∙◌}
use Rattle.std.specs.Prelude.{is_some}
use Rattle.vt_world.proofs.Places.{taken_alike}
use Rattle.vt_switch.specs.Display.{is_allocated}
use Rattle.vt_world.specs.State.{WorldState}
use Rattle.vt_world.proofs.world.World.screen.Goals as goal

pub returns-in-Some-clause-allocated : goal.returns-in-Some-clause-allocated
returns-in-Some-clause-allocated c =
    sym (ap is_some c.in-Some.is)
    ∙ c.at.ensures.taken
    ∙ taken_alike c.self.inside.terminals c.self.inside.switch.consoles c.args.c c.self.invariant.alike
    ∙ ap (λ (w : WorldState). is_allocated w.display c.args.c) c.self.view_is

pub returns-in-None-clause-allocated : goal.returns-in-None-clause-allocated
returns-in-None-clause-allocated c =
    sym (ap is_some c.in-None.is)
    ∙ c.at.ensures.taken
    ∙ taken_alike c.self.inside.terminals c.self.inside.switch.consoles c.args.c c.self.invariant.alike
    ∙ ap (λ (w : WorldState). is_allocated w.display c.args.c) c.self.view_is
