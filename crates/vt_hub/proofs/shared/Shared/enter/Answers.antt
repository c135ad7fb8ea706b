use Rattle.std.proofs.Common.{rules, ◌≡◌, ℕ, ◌==◌, ◌&&◌, ◌||◌, [], ◌∷◌, ◌++◌, arith, refl, sym, ap, subst, ◌∙◌}
use Rattle.vt_events.specs.declared.entry.Entry.{Entry}
use Rattle.vt_hub.specs.Histories.{made_by}
use Rattle.vt_hub.specs.Shared.{SharedView, shared_view}
use Rattle.vt_hub.specs.Waiters.{AreEnded, AreOpen, has_process}
use Rattle.vt_hub.specs.declared.state.State.{State}
use Rattle.vt_world.proofs.Stated.{legal_grows-entered, sizes_stay, tickets_are_called}
use Rattle.vt_world.specs.History.{IsEntryOf}
use Rattle.vt_world.specs.State.{WorldState, is_waiting}
use Rattle.vt_world.specs.Step.{HasOutcome, step}
use Rattle.vt_hub.proofs.Sounds.{ended_are, enters, open_after}
use Rattle.std.proofs.Common.{length}
use Rattle.vt_hub.proofs.shared.Shared.enter.Goals as goal

pub invariant_of-self : goal.invariant_of-self
invariant_of-self g c =
    let v : SharedView = shared_view c.self.inside.state.value in
    let given : c.deref_mut-state.result.now ≡ c.self.inside.state.value = c.deref_mut-state.ensures.value in
    let w : SharedView = record {
      world = c.step_with-reply.new.self;
      log = c.push_counted.new.self;
      stop = c.deref_mut-state.result.now.stop;
      waits = c.after-waits.result.bits;
    } in
    let entry : Entry = record {
      caller = c.args.caller;
      seq = c.args.seq;
      event = c.replace.result;
      reply = c.copy.result;
    } in
    let of : IsEntryOf c.args.caller c.args.seq c.args.event.now c.step_with-reply.result entry =
    record { caller = refl; number = refl; event = c.replace.ensures.value; reply = c.copy.ensures.answer } in
    let stepped : HasOutcome (step v.world c.args.caller c.args.event.now) w.world c.step_with-reply.result =
    subst (λ (x : WorldState). HasOutcome (step x c.args.caller c.args.event.now) w.world c.step_with-reply.result)
    (ap (λ (s : State). s.world) given) c.step_with-reply.ensures.step in
    enters g.J.Opening.start g.J.Opening.limits v w c.args.caller c.args.seq c.args.event.now
    c.step_with-reply.result entry of stepped c.self.invariant legal_grows-entered
    sizes_stay tickets_are_called
    (ap (λ (x : SharedView). is_waiting x.world c.args.caller) c.self.view_is ∙ c.requires.free)
    (c.requires.number
    ∙ ap (λ (x : SharedView). length (made_by c.args.caller x.log.entries)) (sym c.self.view_is))
    (ap (λ l. l.entries) c.push_counted.ensures ∙ ap (λ (s : State). s.log.entries ++ entry ∷ []) given)
    (ap (λ l. l.limits) c.push_counted.ensures ∙ ap (λ (s : State). s.log.limits) given)
    (ap (λ (s : State). s.stop) given ∙ (ap (λ (x : SharedView). x.stop) c.self.view_is ∙ c.requires.open))
    (omega (arith, c.get-front.ensures.low, c.get-front.ensures.same, c.display.ensures))
    (omega (arith, c.get-front.ensures.high, c.get-front.ensures.same, c.display.ensures))
    (λ q process. c.after-waits.ensures q process
    ∙ ap (λ (s : State). is_waiting c.step_with-reply.new.self q && (q == c.args.caller || has_process s.waits.bits q)) given)

pub returns : goal.returns
returns g c =
    let given : c.deref_mut-state.result.now ≡ c.self.inside.state.value = c.deref_mut-state.ensures.value in
    let v : SharedView = shared_view c.self.inside.state.value in
    let after : WorldState = c.step_with-reply.new.self in
    let old : ℕ = c.deref_mut-state.result.now.waits.bits in
    let new : ℕ = c.after-waits.result.bits in
    let ended : ℕ = c.ended-ended.result.set.bits in
    let entry : Entry = record {
      caller = c.args.caller;
      seq = c.args.seq;
      event = c.replace.result;
      reply = c.copy.result;
    } in
    let stepped : HasOutcome (step v.world c.args.caller c.args.event.now) after c.step_with-reply.result =
    subst (λ (x : WorldState). HasOutcome (step x c.args.caller c.args.event.now) after c.step_with-reply.result)
    (ap (λ (s : State). s.world) given) c.step_with-reply.ensures.step in
    let stood : AreOpen v.world old =
    subst (λ (s : State). AreOpen v.world s.waits.bits) (sym given) c.self.invariant.waits in
    let stand : AreOpen after new =
    open_after tickets_are_called v.world after c.args.caller c.args.event.now c.step_with-reply.result
    stepped old new stood c.after-waits.ensures in (
      record {
        entry = entry;
        entries = search rules;
        at = search rules;
        caller = refl;
        number = refl;
        event = search rules;
        reply = search rules;
        room = search rules;
        free = search rules;
        met = search rules;
        goes_on = search rules;
        few = search rules;
      },
      subst (λ (x : SharedView). AreEnded x.world after ended) c.self.view_is
          (ended_are v.world after old new ended stood stand c.ended-ended.ensures),
    )
