use Rattle.std.proofs.Common.{List, ℕ, subst}
use Rattle.std.specs.Prelude.{IfOk}
use Rattle.vt_tool.specs.Commands.{Gives}
use Rattle.vt_tool.specs.declared.command.Command.TheVariants as command
use Rattle.vt_tool.proofs.Statuses.{given_holds}
use Rattle.vt_tool.proofs.run.do_race.Goals as goal

pub returns-in-Ok : goal.returns-in-Ok
returns-in-Ok g c =
    given_holds command.Race _ _ _ _ c.in-Ok.input.bytes c.answer.result c.write_answer.result
    c.in-Ok.ensures
    (subst (λ (bytes : List ℕ). IfOk c.answer.result (Gives command.Race bytes)) c.as_slice.ensures
    c.answer.ensures)
    c.write_answer.ensures.own c.write_answer.ensures.ends
