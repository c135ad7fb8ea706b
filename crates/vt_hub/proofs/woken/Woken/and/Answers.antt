use Rattle.std.proofs.Common.{◌==◌, ◌%◌, ◌^◌, ap, ◌∙◌}
use Rattle.std.specs.Int.{bit_at}
use Rattle.std.specs.Int.RustNames.{bit_or}
use Rattle.vt_hub.proofs.Bits.{with_mask}
use Rattle.vt_hub.proofs.woken.Woken.and.Goals as goal

pub returns : goal.returns
returns c = λ p.
    ap (λ m. bit_at (bit_or c.args.self.bits m) (p % 64) == 1) (c.bit_of-bit.ensures ∙ ap (λ n. 2 ^ (n % 64)) c.number.ensures)
    ∙ with_mask c.args.self.bits (c.args.rung % 64) (p % 64)
