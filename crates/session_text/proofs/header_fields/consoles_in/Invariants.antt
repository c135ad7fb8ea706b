use Rattle.std.proofs.Common.{◌≡◌, false, drop}
use Rattle.vt_base.specs.ConsoleSet.{is_among}
use Rattle.session_text.specs.Openings.{consoles_in}
use Rattle.session_text.proofs.header_fields.consoles_in.Given as goal

abbrev pub invariant-loop-number : goal.invariant-loop-number
invariant-loop-number l =
    (consoles_in l.set (drop l.number-index l.numbers) ≡ consoles_in 0 l.numbers)
    × (is_among l.set 0 ≡ false)
