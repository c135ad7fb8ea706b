use Rattle.std.proofs.Common.{◌≡◌, arith, length, sym, ap, ◌∙◌}
use Rattle.turn_lock.specs.Views.{without_turn}
use Rattle.turn_lock.specs.Words.{lock_named, name, pass_of, view}
use Rattle.turn_lock.specs.declared.view.View.{View}
use Rattle.atomic_table.specs.Seated.{TableId}
use Rattle.vt_events.specs.declared.entry.Entry.{Entry}
use Rattle.vt_journal.specs.declared.full.Full.{Full}
use Rattle.vt_hub.specs.Shared.{Enters, SharedView, Stops}
use Rattle.vt_hub.specs.Views.{PassView}
use Rattle.vt_hub.proofs.Carried.{length-carried_entries}
use Rattle.vt_hub.proofs.Found.{Found, adds, count, counted_after, done, few_made, found_from, full, role_after, waits, wakes}
use Rattle.vt_hub.proofs.hub.Hub.turn.Goals as goal

pub call-look-requires-clause-number : goal.call-look-requires-clause-number
call-look-requires-clause-number g c =
    count _ _ _ _ _ _ _
    (found_from _ _ _ _ _ c.enter-held.result.value c.value-shared.result.now _ c.value-shared.ensures.value
    c.sound.ensures c.p.invariant.named c.p.invariant.counted c.enter-held.ensures.finds c.enter-held.ensures.view)

pub publish-requires-clause-adds : goal.publish-requires-clause-adds
publish-requires-clause-adds g c =
    let start = g.J.Opening.start in let most = g.J.Opening.limits in
    let number = c.p.inside.number in let seq = c.p.inside.seq in
    let before : View Entry Full = view c.p.inside.place in
    let s : SharedView = c.value-shared.result.now in
    let held : View Entry Full = view (pass_of c.enter-held.result) in
    let found : Found start most number seq before s held =
    found_from start most number seq before c.enter-held.result.value s held c.value-shared.ensures.value
    c.sound.ensures c.p.invariant.named c.p.invariant.counted c.enter-held.ensures.finds c.enter-held.ensures.view in
    let after : SharedView = c.call-look.new.self in
    let enters : Enters number seq c.args.event.now s after c.in-Done.at c.in-Done.reply =
    c.in-Done.ensures.0 in
    adds start most number seq before s held found after c.args.event.now c.in-Done.at
    c.in-Done.reply enters c.sound-2.ensures

pub publish-requires-clause-few : goal.publish-requires-clause-few
publish-requires-clause-few g c =
    let start = g.J.Opening.start in
    let number = c.p.inside.number in let seq = c.p.inside.seq in
    let old : SharedView = c.enter-held.result.value in
    let s : SharedView = c.value-shared.result.now in
    let after : SharedView = c.call-look.new.self in
    let enters : Enters number seq c.args.event.now s after c.in-Done.at c.in-Done.reply =
    c.in-Done.ensures.0 in
    let few = enters.few in
    let same = ap (λ (s : SharedView). length s.log.entries) c.value-shared.ensures.value in
    let seen = ap (λ v. length v.seen) c.enter-held.ensures.view.1 in
    omega (arith, few, same, seen, length-carried_entries start old.log.entries)

pub overflow_add-p : goal.overflow_add-p
overflow_add-p g c =
    let start = g.J.Opening.start in let most = g.J.Opening.limits in
    let number = c.p.inside.number in let seq = c.p.inside.seq in
    let before : View Entry Full = view c.p.inside.place in
    let s : SharedView = c.value-shared.result.now in
    let held : View Entry Full = view (pass_of c.enter-held.result) in
    let after : SharedView = c.call-look.new.self in
    let enters : Enters number seq c.args.event.now s after c.in-Done.at c.in-Done.reply =
    c.in-Done.ensures.0 in
    let few = enters.few in
    let counted = count start most number seq before s held
    (found_from start most number seq before c.enter-held.result.value s held c.value-shared.ensures.value
    c.sound.ensures c.p.invariant.named c.p.invariant.counted c.enter-held.ensures.finds c.enter-held.ensures.view) in
    omega (arith, few, counted, few_made number s.log.entries)

pub invariant_of-p : goal.invariant_of-p
invariant_of-p g c =
    let start = g.J.Opening.start in let most = g.J.Opening.limits in
    let number = c.p.inside.number in let seq = c.p.inside.seq in
    let before : View Entry Full = view c.p.inside.place in
    let s : SharedView = c.value-shared.result.now in
    let after : SharedView = c.call-look.new.self in
    let held : View Entry Full = view (pass_of c.enter-held.result) in
    let shown : View Entry Full = view (pass_of c.publish.new.self) in
    let found : Found start most number seq before s held =
    found_from start most number seq before c.enter-held.result.value s held c.value-shared.ensures.value
    c.sound.ensures c.p.invariant.named c.p.invariant.counted c.enter-held.ensures.finds c.enter-held.ensures.view in
    let enters : Enters number seq c.args.event.now s after c.in-Done.at c.in-Done.reply =
    c.in-Done.ensures.0 in
    let left : view c.leave.new.self.1.0 ≡ without_turn after.stop shown =
    c.leave.ensures.rests.1 ∙ ap (λ (x : SharedView). without_turn x.stop shown) c.publish.ensures.value in record {
      rests = c.leave.ensures.rests.0.1;
      named = role_after start most number seq before s held found after (view c.leave.new.self.1.0)
          c.args.event.now c.in-Done.at c.in-Done.reply enters shown
          c.publish.ensures.view c.publish.ensures.mine left;
      counted = counted_after start most number seq before s held found after (view c.leave.new.self.1.0)
          c.args.event.now c.in-Done.at c.in-Done.reply enters shown
          c.publish.ensures.view c.publish.ensures.mine left;
    }

pub returns-in-Done : goal.returns-in-Done
returns-in-Done g c =
    let start = g.J.Opening.start in let most = g.J.Opening.limits in
    let number = c.p.inside.number in let seq = c.p.inside.seq in
    let before : View Entry Full = view c.p.inside.place in
    let hub : TableId = lock_named c.p.inside.place in
    let s : SharedView = c.value-shared.result.now in
    let after : SharedView = c.call-look.new.self in
    let held : View Entry Full = view (pass_of c.enter-held.result) in
    let shown : View Entry Full = view (pass_of c.publish.new.self) in
    let found : Found start most number seq before s held =
    found_from start most number seq before c.enter-held.result.value s held c.value-shared.ensures.value
    c.sound.ensures c.p.invariant.named c.p.invariant.counted c.enter-held.ensures.finds c.enter-held.ensures.view in
    let own : name c.self.inside.lock ≡ hub =
    c.self.view_is ∙ (sym c.requires.own ∙ sym (ap (λ (q : PassView). q.hub) c.p.view_is)) in
    let home : lock_named c.leave.new.self.1.0 ≡ hub =
    c.leave.ensures.rests.0.0 ∙ (ap name c.publish.ensures.lock ∙ (c.enter-held.ensures.lock ∙ own)) in
    let enters : Enters number seq c.args.event.now s after c.in-Done.at c.in-Done.reply =
    c.in-Done.ensures.0 in
    let left : view c.leave.new.self.1.0 ≡ without_turn after.stop shown =
    c.leave.ensures.rests.1 ∙ ap (λ (x : SharedView). without_turn x.stop shown) c.publish.ensures.value in (
      done start most number seq before s held found after (view c.leave.new.self.1.0) c.args.event.now
          c.in-Done.at c.in-Done.reply enters shown c.publish.ensures.view
          c.publish.ensures.mine left hub c.args.p.now c.p.view_is (lock_named c.leave.new.self.1.0) home
          c.sound-2.ensures,
      wakes start most number seq before s held found after (view c.leave.new.self.1.0) c.args.event.now
          c.in-Done.at c.in-Done.reply enters shown c.publish.ensures.view
          c.publish.ensures.mine left (lock_named c.leave.new.self.1.0) c.sound-2.ensures c.in-Done.ended.set.bits
          c.wake-woken.result.bits c.in-Done.ensures.1 c.wake-woken.ensures,
    )

pub returns-in-Full : goal.returns-in-Full
returns-in-Full g c =
    let start = g.J.Opening.start in let most = g.J.Opening.limits in
    let number = c.p.inside.number in let seq = c.p.inside.seq in
    let before : View Entry Full = view c.p.inside.place in
    let hub : TableId = lock_named c.p.inside.place in
    let s : SharedView = c.value-shared.result.now in
    let held : View Entry Full = view (pass_of c.enter-held.result) in
    let found : Found start most number seq before s held =
    found_from start most number seq before c.enter-held.result.value s held c.value-shared.ensures.value
    c.sound.ensures c.p.invariant.named c.p.invariant.counted c.enter-held.ensures.finds c.enter-held.ensures.view in
    let own : name c.self.inside.lock ≡ hub =
    c.self.view_is ∙ (sym c.requires.own ∙ sym (ap (λ (q : PassView). q.hub) c.p.view_is)) in
    let after : SharedView = c.call-look.new.self in
    let stops : Stops number c.args.event.now s after c.in-Full.full =
    c.in-Full.ensures in (
      full start most number seq before s held found after
          (view c.leave-in-Full.new.self.1.0) c.leave-in-Full.ensures.rests.1 hub c.args.p.now c.p.view_is
          (lock_named c.leave-in-Full.new.self.1.0)
          (c.leave-in-Full.ensures.rests.0.0 ∙ (c.enter-held.ensures.lock ∙ own)) c.args.event.now
          c.in-Full.full stops c.sound-2.ensures,
      c.wake_all-woken.ensures,
    )

pub returns-in-Waits : goal.returns-in-Waits
returns-in-Waits g c =
    let start = g.J.Opening.start in let most = g.J.Opening.limits in
    let number = c.p.inside.number in let seq = c.p.inside.seq in
    let before : View Entry Full = view c.p.inside.place in
    let hub : TableId = lock_named c.p.inside.place in
    let s : SharedView = c.value-shared.result.now in
    let held : View Entry Full = view (pass_of c.enter-held.result) in
    let found : Found start most number seq before s held =
    found_from start most number seq before c.enter-held.result.value s held c.value-shared.ensures.value
    c.sound.ensures c.p.invariant.named c.p.invariant.counted c.enter-held.ensures.finds c.enter-held.ensures.view in
    let own : name c.self.inside.lock ≡ hub =
    c.self.view_is ∙ (sym c.requires.own ∙ sym (ap (λ (q : PassView). q.hub) c.p.view_is)) in
    waits start most number seq before s held found c.call-look.new.self
    (view c.leave-in-Waits.new.self.1.0) c.leave-in-Waits.ensures.rests.1 hub c.args.p.now c.p.view_is
    (lock_named c.leave-in-Waits.new.self.1.0)
    (c.leave-in-Waits.ensures.rests.0.0 ∙ (c.enter-held.ensures.lock ∙ own)) c.in-Waits.ensures
