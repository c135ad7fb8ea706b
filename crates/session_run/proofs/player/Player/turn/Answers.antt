use Rattle.std.proofs.Common.{◌≡◌, Some, sym, ap, ◌∙◌, subst}
use Rattle.session_run.proofs.Turns.{not_stopped, turn_skips}
use Rattle.session_text.specs.Programs.{program_of}
use Rattle.session_run.proofs.player.Player.turn.Goals as goal

pub returns-in_ok-call-in-Some-2 : goal.returns-in_ok-call-in-Some-2
returns-in_ok-call-in-Some-2 g c = λ o t same at.
    let is : program_of o.programs c.args.p ≡ Some c.in-Some.caller =
    ap (λ programs. program_of programs c.args.p) same ∙ sym c.get.ensures ∙ c.in-Some.is in
    c.in_ok-call-in-Some-2.ensures o t (is ∙ ap Some (sym c.program.ensures))
    (sym at.stop ∙ not_stopped c.args.self.now.stop (sym c.is_some.ensures ∙ c.if-is_some.false))
    (sym (c.in_ok-event.ensures o t is at) ∙ c.in-Some-2.is) at

pub returns-in-None : goal.returns-in-None
returns-in-None g c = λ o t same at.
    let is : program_of o.programs c.args.p ≡ Some c.in-Some.caller =
    ap (λ programs. program_of programs c.args.p) same ∙ sym c.get.ensures ∙ c.in-Some.is in
    turn_skips o t c.args.p c.args.self.now (not_stopped c.args.self.now.stop (sym c.is_some.ensures ∙ c.if-is_some.false))
    (sym c.in-None.is ∙ c.in_ok-event.ensures o t is at) at
