use Rattle.std.proofs.Common.{IsTrue, ℕ, subst, sym}
use Rattle.std.specs.List.{slice_index}
use Rattle.key_syms.specs.Act.{is_action}
use Rattle.key_syms.specs.declared.index.TheConstants.{VALUES}
use Rattle.key_syms.proofs.Rows.{act_is_action}
use Rattle.key_syms.proofs.symbol.action_at.Goals as goal

pub invariant_of-result : goal.invariant_of-result
invariant_of-result c =
    subst (λ (value : ℕ). IsTrue (is_action c.kind_at.result value)) (sym c.value_at.ensures)
    (subst (λ (kind : ℕ). IsTrue (is_action kind (slice_index VALUES c.args.place))) (sym c.kind_at.ensures)
    (act_is_action c.args.place c.requires))
