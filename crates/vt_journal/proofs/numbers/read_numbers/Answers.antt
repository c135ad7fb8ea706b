use Rattle.std.proofs.Common.{sym, ◌∙◌, arith}
use Rattle.vt_journal.proofs.Arguments.{no_number}
use Rattle.vt_journal.proofs.numbers.read_numbers.Goals as goal

pub returns-in_err-read_number-clause-takes : goal.returns-in_err-read_number-clause-takes
returns-in_err-read_number-clause-takes c =
    rw c.from_residual.ensures
    (λ ns rest fit is.
    no_number c.loop-i.numbers.items c.loop-i.words rest ns (omega (arith, fit.0)) fit.1
    (sym c.loop-i.invariant.0 ∙ is) c.in_err-read_number.ensures)
