use Rattle.std.proofs.Common.{refl, ap, ◌∙◌}
use Rattle.vt_procs.specs.Callers.{is_live}
use Rattle.vt_switch.proofs.Stated.{each_target_was_asked_for-owners}
use Rattle.vt_switch.specs.Acts.{SetMode}
use Rattle.vt_world.specs.State.{WorldState}
use Rattle.vt_world.proofs.Owners.{set_mode, still_world}
use Rattle.vt_world.proofs.world.World.handle.Goals as goal

pub invariant_of-self : goal.invariant_of-self
invariant_of-self c =
    still_world each_target_was_asked_for-owners (SetMode c.args.c c.args.p c.args.m) refl
    (set_mode c.self.inside.switch c.self.inside.procs c.args.c c.args.p c.args.m
    (ap (λ (w : WorldState). is_live w.callers c.args.p) c.self.view_is ∙ c.requires))
    c.set_mode.ensures.state c.self.invariant
