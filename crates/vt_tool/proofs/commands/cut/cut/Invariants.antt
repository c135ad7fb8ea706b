use Rattle.vt_tool.proofs.Cuts.{NoneBefore}
use Rattle.vt_tool.proofs.commands.cut.cut.Given as goal

abbrev pub invariant-loop-at : goal.invariant-loop-at
invariant-loop-at l = NoneBefore l.mark l.input l.at
