use Rattle.std.proofs.Common.{◌^◌, ◌-◌, ◌/◌, ℕ, sym, ap, ◌∙◌}
use Rattle.vt_base.proofs.Signals.{first_answer, none_from}
use Rattle.vt_base.proofs.sig_set.SigSet.first_from.Goals as goal

pub returns-then-left-eq0-clause-none : goal.returns-then-left-eq0-clause-none
returns-then-left-eq0-clause-none c =
    none_from c.args.self c.args.n c.requires
    (ap (λ (bits : ℕ). bits / 2 ^ (c.args.n - 1)) (sym c.bits.ensures) ∙ c.if-left-eq0.true)

pub returns-clause-found : goal.returns-clause-found
returns-clause-found c =
    (first_answer c.args.self c.args.n c.bits.result c.new.result c.bits.ensures c.requires
    c.bits.type_inv c.if-left-eq0.false c.new.ensures).0

pub returns-clause-none : goal.returns-clause-none
returns-clause-none c =
    (first_answer c.args.self c.args.n c.bits.result c.new.result c.bits.ensures c.requires
    c.bits.type_inv c.if-left-eq0.false c.new.ensures).1
