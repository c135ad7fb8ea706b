use Rattle.std.proofs.Common.{arith}
use Rattle.vt_check.proofs.Overs.{all_are_over}
use Rattle.vt_check.proofs.judge.Judge.are_over.Goals as goal

pub returns : goal.returns
returns c = λ o h at.
    all_are_over o.programs h
    (λ p within. c.loop-i.invariant o h at p (omega (arith, within, c.loop-i-test.false)))
