use Rattle.std.proofs.Common.{◌%◌, arith}
use Rattle.vt_hub.proofs.Bits.{without_bits}
use Rattle.vt_hub.proofs.waiters.Waiters.ended.Goals as goal

pub returns : goal.returns
returns c = λ p. without_bits c.args.self.bits c.args.later.bits (p % 64) (omega arith) (omega arith)
