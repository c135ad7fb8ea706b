use Rattle.std.proofs.Common.{arith, ◌∙◌}
use Rattle.vt_free.proofs.Charges.{full_is}
use Rattle.vt_free.proofs.free_judge.FreeJudge.is_full_at.Goals as goal

pub returns : goal.returns
returns c = λ start h at.
    full_is c.args.limits h c.args.full.now c.has_room.result
    ((c.has_numbers.ensures.0 c.if-not-has_numbers.false).0 ∙ at.events)
    ((c.has_numbers.ensures.0 c.if-not-has_numbers.false).1 ∙ at.bytes)
    (omega (arith, c.if-full-lt-LEAST_CHARGE.false)) (omega arith)
    (c.has_room.ensures start h at)
