use Rattle.std.proofs.Common.{rules, ◌≡◌, Some, false, arith, sym, ap, subst, ◌∙◌}
use Rattle.turn_lock.specs.declared.seal.Seal.{Seal}
use Rattle.vt_hub.specs.Shared.{IsSound, SharedView, shared_view}
use Rattle.vt_hub.specs.declared.state.State.{State}
use Rattle.vt_journal.specs.Room.{full_at, has_room, stop_at}
use Rattle.vt_journal.specs.declared.full.Full.{Full}
use Rattle.vt_world.specs.State.{is_waiting}
use Rattle.vt_hub.proofs.Found.{met_before}
use Rattle.vt_hub.proofs.Sounds.{sound_stopped}
use Rattle.vt_hub.proofs.shared.Shared.call.Goals as goal

pub returns-in-Some : goal.returns-in-Some
returns-in-Some g c =
    met_before c.args.caller c.args.event.now c.args.self.now c.in-Some.stop
    (sym (ap (λ (x : SharedView). x.stop) c.self.view_is)
    ∙ (ap (λ (s : State). s.stop) (sym c.deref-state.ensures) ∙ c.in-Some.is))

pub invariant_of-self : goal.invariant_of-self
invariant_of-self g c =
    let now : State = c.self.inside.state.value in
    let given : c.deref_mut.result.now ≡ now = c.deref_mut.ensures.value in
    let lent : c.deref-state.result.now ≡ now = c.deref-state.ensures in
    let full : Full = c.in-Some-stop.full in
    let z : Seal Full = record { by = c.from.result; what = full } in
    let stops : c.stop.result ≡ stop_at now.log c.charge-charge.result =
    c.stop.ensures ∙ ap (λ (s : State). stop_at s.log c.charge-charge.result) lent in
    let numbers : full ≡ full_at now.log.entries full.charge = grind (arith, stops, c.in-Some-stop.is) in
    let none : has_room now.log.limits now.log.entries full.charge ≡ false = grind (arith, stops, c.in-Some-stop.is) in
    let no_room : has_room g.J.Opening.limits now.log.entries full.charge ≡ false =
    ap (λ limits. has_room limits now.log.entries full.charge) (sym c.self.invariant.limits) ∙ none in
    let goes : is_waiting now.world z.by ≡ false = search rules in
    subst (λ (s : State). IsSound g.J.Opening.start g.J.Opening.limits (record (shared_view s) { stop = Some z })) (sym given)
    (sound_stopped g.J.Opening.start g.J.Opening.limits (shared_view now) z c.self.invariant
    (record { numbers = numbers; no_room = no_room; goes = goes }))
