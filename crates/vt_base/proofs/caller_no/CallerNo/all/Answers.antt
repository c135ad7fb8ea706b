use Rattle.std.proofs.Common.{arith}
use Rattle.vt_base.proofs.Numbers.{rising}
use Rattle.vt_base.proofs.caller_no.CallerNo.all.Goals as goal

pub returns : goal.returns
returns c =
    rising 0 68 c.loop-i.all c.loop-i.invariant.0
    (λ k within. c.loop-i.invariant.1 k (omega (arith, within)))
