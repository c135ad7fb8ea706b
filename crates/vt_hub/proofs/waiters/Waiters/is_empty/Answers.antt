use Rattle.std.proofs.Common.{◌==◌, ◌%◌, ap, ◌∙◌}
use Rattle.std.proofs.lemmas.Bool.{eqb-true}
use Rattle.std.proofs.lemmas.Nat.Bits.{bit_at-zero}
use Rattle.std.specs.Int.{bit_at}
use Rattle.vt_hub.proofs.waiters.Waiters.is_empty.Goals as goal

pub returns : goal.returns
returns c = λ yes p.
    ap (λ n. n == 1)
    (ap (λ set. bit_at set (p % 64)) (eqb-true c.args.self.bits 0 yes) ∙ bit_at-zero (p % 64))
