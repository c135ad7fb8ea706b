use Rattle.std.proofs.Common.{ℕ, ap, ◌∙◌}
use Rattle.std.specs.Int.RustNames.{bit_and}
use Rattle.std.specs.Prelude.{◌==◌, ◌-◌}
use Rattle.vt_base.proofs.Signals.{has_by_mask}
use Rattle.vt_base.proofs.sig_set.SigSet.has.Goals as goal

pub returns : goal.returns
returns c =
    c.contains.ensures tt
    ∙ ap (λ (m : ℕ). bit_and c.args.self m == m) c.alone.ensures
    ∙ has_by_mask c.args.self (c.args.s - 1)
