use Rattle.std.proofs.Common.{◌==◌, ◌%◌, not, ap, ◌∙◌}
use Rattle.std.specs.Int.RustNames.{bit_and}
use Rattle.vt_hub.proofs.Bits.{has_by_mask}
use Rattle.vt_hub.proofs.waiters.Waiters.has.Goals as goal

pub returns : goal.returns
returns c =
    ap (λ m. not (bit_and c.args.self.bits m == 0)) c.bit.ensures
    ∙ has_by_mask c.args.self.bits (c.args.caller % 64)
