use Rattle.std.proofs.Common.{ap, sym, ◌∙◌}
use Rattle.vt_switch.specs.Moments.{hop_marks}
use Rattle.vt_switch.specs.declared.mark.Mark.TheVariants as mark
use Rattle.vt_world.specs.Heard.{apply_marks}
use Rattle.vt_world.specs.State.{WorldState, core}
use Rattle.vt_world.specs.contracts.world.World.{the_view}
use Rattle.vt_world.proofs.Cores.{hears, lives}
use Rattle.vt_world.proofs.Lives.{hop_told}
use Rattle.vt_world.proofs.Owners.{same_live}
use Rattle.vt_world.proofs.world.World.hopped.Goals as goal

pub invariant_of-self : goal.invariant_of-self
invariant_of-self c =
    same_live (ap lives c.shown.ensures ∙ hears (mark.Hopped c.in-Some.hop) c.self.inside.procs)
    c.self.invariant

pub invariant_of-self-in-Auto : goal.invariant_of-self-in-Auto
invariant_of-self-in-Auto c =
    same_live (ap lives c.shown.ensures ∙ hears (mark.Hopped c.in-Some.hop) c.self.inside.procs)
    c.self.invariant

pub returns-in-Process-clause-state : goal.returns-in-Process-clause-state
returns-in-Process-clause-state c =
    let w : WorldState = the_view c.self.inside in
    let v : WorldState = record w { callers = c.shown.new.self; trace = c.push.new.self } in
    c.raise.ensures.state
    ∙ hop_told w v c.in-Some.hop c.in-Process.handshake
    (λ i. record w { callers = c.shown.ensures i; trace = c.push.ensures i })
    (sym c.handling.ensures ∙ c.in-Process.is)
    ∙ (λ i. apply_marks (c.self.view_is i) (hop_marks (core (c.self.view_is i)) (sym c.in-Some.is i)))
