use Rattle.std.proofs.Common.{sym, ◌∙◌, arith}
use Rattle.vt_journal.proofs.Arguments.{none_within}
use Rattle.vt_journal.proofs.numbers.take_numbers.Goals as goal

pub returns-in_err-take_number-clause-takes : goal.returns-in_err-take_number-clause-takes
returns-in_err-take_number-clause-takes c =
    rw c.from_residual.ensures
    (λ ns rest within is.
    none_within c.args.mosts.now c.loop-i.numbers.items c.loop-i.words rest ns c.loop-i.i
    c.loop-i.invariant.many (omega arith) within (sym c.loop-i.invariant.words ∙ is)
    c.in_err-take_number.ensures.takes)
