use Rattle.std.proofs.Common.{◌≡◌, ◌∙◌, ℕ, take, length, min, ap, arith}
use Rattle.std.proofs.lemmas.List.{take_min}
use Rattle.vt_units.proofs.pending_bytes.sequence_front.Goals as goal

pub returns : goal.returns
returns c =
    let is : c.min.result ≡ min 256 (length c.args.b.now) = omega arith in
    ap (λ (k : ℕ). take k c.args.b.now) is ∙ take_min 256 c.args.b.now
