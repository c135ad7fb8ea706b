use Rattle.std.proofs.Common.{arith}
use Rattle.vt_explain.proofs.Items.{not_zero}
use Rattle.vt_explain.proofs.numbers.take_from_one.Goals as goal

pub returns-then-n-eq0-clause-takes : goal.returns-then-n-eq0-clause-takes
returns-then-n-eq0-clause-takes c = λ n rest fit is.
    not_zero c.in_ok-n.n n c.take_number.new.words rest c.args.words.now (omega (arith, c.if-n-eq0.true)) fit.0
    (omega (arith, fit.1, c.ranges.most.fits)) c.in_ok-n.ensures.takes is
