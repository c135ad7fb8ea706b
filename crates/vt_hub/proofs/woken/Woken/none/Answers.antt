use Rattle.std.proofs.Common.{◌==◌, ◌%◌, ap}
use Rattle.std.proofs.lemmas.Nat.Bits.{bit_at-zero}
use Rattle.vt_hub.proofs.woken.Woken.none.Goals as goal

pub returns : goal.returns
returns c = λ p. ap (λ n. n == 1) (bit_at-zero (p % 64))
