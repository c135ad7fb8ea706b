use Rattle.std.proofs.Common.{ℕ, Some, subst, sym, ◌∙◌}
use Rattle.machine_c.specs.Calls.{Answers, places}
use Rattle.vt_events.proofs.Calls.{kind_once}
use Rattle.vt_events.specs.Kinds.{call_of}
use Rattle.vt_events.specs.declared.kind.Kind.{Kind}
use Rattle.machine_c.proofs.calling.call_words.Goals as goal

pub returns-in-Some-clause-call : goal.returns-in-Some-clause-call
returns-in-Some-clause-call c kind is =
    let found = c.in-Some.ensures.some in
    subst
    (λ (k : Kind). Answers c.args.caller (call_of k c.args.numbers.now c.args.held.now) c.args.machine.now
    (places (Some c.args.machine.now) c.args.reply.now c.args.bytes.now)
    (places (Some c.call_kind.new.machine) c.call_kind.new.reply c.call_kind.new.bytes) c.call_kind.result)
    (kind_once c.in-Some.found.kind kind (found.1.named ∙ sym is.named))
    (subst
    (λ (p : ℕ). Answers p (call_of c.in-Some.found.kind c.args.numbers.now c.args.held.now) c.args.machine.now
    (places (Some c.args.machine.now) c.args.reply.now c.args.bytes.now)
    (places (Some c.call_kind.new.machine) c.call_kind.new.reply c.call_kind.new.bytes) c.call_kind.result)
    found.0 c.call_kind.ensures)
