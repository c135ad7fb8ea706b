use Rattle.std.proofs.Common.{ap, length, arith}
use Rattle.vt_units.proofs.Fields.{full}
use Rattle.vt_units.proofs.numbers.add.Goals as goal

pub returns-else-as_slice-lt16 : goal.returns-else-as_slice-lt16
returns-else-as_slice-lt16 c =
    full c.args.params.now c.args.number (omega (arith, ap length c.as_slice.ensures.numbers))
