use Rattle.std.proofs.Common.{◌==◌, ◌%◌, ap, ◌∙◌}
use Rattle.std.specs.Int.{bit_at}
use Rattle.std.specs.Int.RustNames.{bit_or}
use Rattle.vt_hub.proofs.Bits.{with_mask}
use Rattle.vt_hub.proofs.waiters.Waiters.with.Goals as goal

pub returns : goal.returns
returns c = λ p.
    ap (λ m. bit_at (bit_or c.args.self.bits m) (p % 64) == 1) c.bit.ensures
    ∙ with_mask c.args.self.bits (c.args.process % 64) (p % 64)
