use Rattle.std.proofs.Common.{arith}
use Rattle.vt_tool.proofs.Cuts.{cut_here, cut_nowhere}
use Rattle.vt_tool.proofs.commands.cut.cut.Goals as goal

pub returns-then-has_mark_at : goal.returns-then-has_mark_at
returns-then-has_mark_at c =
    cut_here c.args.mark c.args.input.now c.loop-at.at (omega (arith)) c.loop-at.invariant
    (c.has_mark_at.ensures.yes c.if-has_mark_at.true)

pub returns : goal.returns
returns c =
    cut_nowhere c.args.mark c.args.input.now c.loop-at.at (omega (arith)) c.loop-at.invariant
