use Rattle.std.proofs.Common.{ℕ, ap, ◌∙◌}
use Rattle.std.specs.Int.RustNames.{bit_or}
use Rattle.std.specs.Prelude.{◌-◌}
use Rattle.vt_base.proofs.Signals.{with_by_mask}
use Rattle.vt_base.proofs.sig_set.SigSet.with.Goals as goal

pub returns : goal.returns
returns c =
    c.insert.ensures tt
    ∙ ap (λ (m : ℕ). bit_or c.args.self m) c.alone.ensures
    ∙ with_by_mask c.args.self (c.args.s - 1)
