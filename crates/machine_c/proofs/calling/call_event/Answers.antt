use Rattle.std.proofs.Common.{◌≡◌, ℕ, List, Some, inl, ⊎_elim, refl, ap, ◌∙◌, arith}
use Rattle.machine.specs.MachineState.{HasCalled, MachineState, next_entry}
use Rattle.machine_c.proofs.Entered.{last_called, some_same}
use Rattle.machine_c.specs.Calls.{places}
use Rattle.c_calls.specs.Places.{with_items}
use Rattle.machine_c.specs.Shown.{c_reply}
use Rattle.machine_c.specs.declared.vt_reply.VtReply.{VtReply}
use Rattle.vt_events.specs.Charge.{text_of_reply}
use Rattle.vt_events.specs.declared.entry.Entry.{Entry}
use Rattle.machine_c.proofs.calling.call_event.Goals as goal

pub returns-in-Some : goal.returns-in-Some
returns-in-Some c =
    let old : MachineState = c.args.machine.now in
    let called : HasCalled c.args.caller c.args.event old c.call.new.self = c.in-Ok.ensures.called in
    let entry : Entry = next_entry old c.args.caller c.args.event called.reply in
    let same : c.in-Some.entry.now ≡ entry =
    some_same c.in-Some.entry.now entry
    (c.in-Some.ensures ∙ last_called c.args.caller c.args.event old c.call.new.self called) in
    inl (record {
      fine = refl;
      enough = omega (arith, c.if-bytes-reply_bytes.false, c.reply_bytes.ensures.same);
      room =
          ⊎_elim (λ none. let never = c.in-Ok.ensures.full.1 none in cc)
          (λ counted. let never = c.in-Ok.ensures.uncounted.1 counted in cc);
      next = c.call.new.self;
      called = called;
      places =
          ap (λ (r : VtReply). places (Some c.call.new.self) r c.put_bytes.new.bytes)
          (c.of.ensures ∙ ap (λ (e : Entry). c_reply e.reply) same)
          ∙ ap (λ (bytes : List ℕ). places (Some c.call.new.self) (c_reply called.reply) bytes)
          (c.put_bytes.ensures ∙ ap (λ (e : Entry). with_items (text_of_reply e.reply) c.args.bytes.now) same);
    })

pub returns-in_default : goal.returns-in_default
returns-in_default c =
    let old : MachineState = c.args.machine.now in
    let called : HasCalled c.args.caller c.args.event old c.call.new.self = c.in-Ok.ensures.called in
    let other = c.in_default.ensures ∙ last_called c.args.caller c.args.event old c.call.new.self called in
    cc
