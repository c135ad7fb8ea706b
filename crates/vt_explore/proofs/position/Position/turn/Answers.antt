use Rattle.std.proofs.Common.{◌≡◌, Some, arith, sym, ap, ◌∙◌}
use Rattle.vt_explore.proofs.Calls.{program_none, program_some, turn_makes, turn_nobody, turn_none}
use Rattle.session_order.specs.Serial.{call_now}
use Rattle.session_text.specs.Programs.{program_of}
use Rattle.vt_explore.proofs.position.Position.turn.Goals as goal

pub returns-in_default : goal.returns-in_default
returns-in_default c = λ o h same few at.
    turn_nobody o h c.args.self.now c.args.p
    (ap (λ programs. program_of programs c.args.p) same
    ∙ program_none (λ program. program.now) c.program_of.result _ c.program_of.ensures c.in_default.is)
    at

pub returns-in_ok-make-in-Some-2 : goal.returns-in_ok-make-in-Some-2
returns-in_ok-make-in-Some-2 c = λ o h same few at.
    let is : program_of o.programs c.args.p ≡ Some c.in-Some.program.now =
    ap (λ programs. program_of programs c.args.p) same
    ∙ program_some (λ program. program.now) c.program_of.result _ c.in-Some.program c.program_of.ensures c.in-Some.is in
    let now : call_now o h c.args.p ≡ Some c.in-Some-2.event =
    sym (c.in_ok-event.ensures o h is at) ∙ c.in-Some-2.is in
    turn_makes o h _ c.args.p c.in-Some-2.event _ now
    (c.in_ok-make-in-Some-2.ensures o h is (omega (arith, few)) now at)

pub returns-in-None : goal.returns-in-None
returns-in-None c = λ o h same few at.
    let is : program_of o.programs c.args.p ≡ Some c.in-Some.program.now =
    ap (λ programs. program_of programs c.args.p) same
    ∙ program_some (λ program. program.now) c.program_of.result _ c.in-Some.program c.program_of.ensures c.in-Some.is in
    turn_none o h c.args.self.now c.args.p (sym (c.in_ok-event.ensures o h is at) ∙ c.in-None.is) at
