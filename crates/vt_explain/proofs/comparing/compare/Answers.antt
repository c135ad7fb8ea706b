use Rattle.std.proofs.Common.{arith}
use Rattle.vt_explain.proofs.Answered.{same_all}
use Rattle.vt_explain.proofs.comparing.compare.Goals as goal

pub returns : goal.returns
returns c =
    same_all c.args.made.now c.args.c.now c.loop-k.k (omega (arith, c.loop-k-test.false))
    (omega (arith, c.if-made-c.false)) c.loop-k.invariant
