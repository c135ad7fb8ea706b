use Rattle.std.proofs.Common.{refl, sym, ap, ◌∙◌}
use Rattle.vt_procs.specs.Callers.{Callers}
use Rattle.vt_switch.proofs.Stated.{each_target_was_asked_for-owners}
use Rattle.vt_switch.specs.Acts.{End}
use Rattle.vt_switch.specs.Display.{Display}
use Rattle.vt_world.specs.Deeds.{after_switch_act}
use Rattle.vt_world.specs.State.{WorldState, core_of}
use Rattle.vt_world.specs.contracts.world.World.{the_view}
use Rattle.vt_world.proofs.Lives.{end_told}
use Rattle.vt_world.proofs.Owners.{after_act, end_core}
use Rattle.vt_world.proofs.Stays.{still_alike}
use Rattle.vt_world.proofs.world.World.end.Goals as goal

pub invariant_of-self : goal.invariant_of-self
invariant_of-self c =
    let d : Display = c.self.inside.switch in
    let callers : Callers = c.self.inside.procs in
    record {
      alike =
          still_alike c.self.inside.terminals d c.leave-hop.new.self (End c.args.p) refl
          c.leave-hop.ensures.state c.self.invariant.alike;
      owners =
          after_act each_target_was_asked_for-owners (core_of d callers)
          (core_of c.leave-hop.new.self c.end.new.self) (End c.args.p)
          (end_core d callers c.args.p
          ∙ (λ i. core_of (sym c.leave-hop.ensures.state i) (sym c.end.ensures i)))
          c.self.invariant.owners;
    }

pub returns-clause-state : goal.returns-clause-state
returns-clause-state c =
    let w : WorldState = the_view c.self.inside in
    let v : WorldState = record w {
      display = c.leave-hop.new.self;
      callers = c.end.new.self;
      trace = c.push.new.self;
    } in
    c.hopped.ensures.state
    ∙ end_told w v c.args.p c.leave-hop.result
    (λ i. record w {
      display = c.leave-hop.ensures.state i;
      callers = c.end.ensures i;
      trace = c.push.ensures i;
    })
    c.leave-hop.ensures.answer
    ∙ ap (λ (u : WorldState). after_switch_act u (End c.args.p)) c.self.view_is
