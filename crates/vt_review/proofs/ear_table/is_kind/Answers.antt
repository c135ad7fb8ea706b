use Rattle.std.proofs.Common.{arith}
use Rattle.vt_review.proofs.HighKinds.{no_kind}
use Rattle.vt_review.proofs.ear_table.is_kind.Goals as goal

pub returns-else-kind-lt8 : goal.returns-else-kind-lt8
returns-else-kind-lt8 c =
    no_kind c.args.kinds c.args.kind (omega (arith, c.ranges.kinds.fits)) (omega (arith, c.if-kind-lt8.false))
