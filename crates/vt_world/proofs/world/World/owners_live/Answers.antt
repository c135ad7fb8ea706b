use Rattle.std.proofs.Common.{subst}
use Rattle.vt_switch.specs.Law.{OwnersLive}
use Rattle.vt_world.specs.State.{WorldState, core}
use Rattle.vt_world.proofs.world.World.owners_live.Goals as goal

pub returns : goal.returns
returns c = subst (λ (w : WorldState). OwnersLive (core w)) c.self.view_is c.self.invariant.owners
