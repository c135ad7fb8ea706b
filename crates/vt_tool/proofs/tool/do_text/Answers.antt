use Rattle.std.proofs.Common.{List, ℕ, subst}
use Rattle.std.specs.Prelude.{IfOk}
use Rattle.vt_tool.specs.Commands.{Gives}
use Rattle.vt_tool.proofs.Statuses.{given_holds}
use Rattle.vt_tool.proofs.tool.do_text.Goals as goal

pub returns-in-Ok : goal.returns-in-Ok
returns-in-Ok g c =
    given_holds c.args.command _ _ _ _ c.in-Ok.input.bytes c.answer_to.result c.write_answer.result
    c.in-Ok.ensures
    (subst (λ (bytes : List ℕ). IfOk c.answer_to.result (Gives c.args.command bytes))
    c.as_slice.ensures c.answer_to.ensures)
    c.write_answer.ensures.own c.write_answer.ensures.ends
