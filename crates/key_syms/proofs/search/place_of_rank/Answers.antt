use Rattle.std.proofs.Common.{ℕ, ◌<◌, subst, sym, ◌∙◌}
use Rattle.key_syms.specs.declared.table.TheConstants.{NAME_COUNT}
use Rattle.key_syms.proofs.Places.{order_is_within}
use Rattle.key_syms.proofs.search.place_of_rank.Goals as goal

pub returns-clause-within : goal.returns-clause-within
returns-clause-within c =
    subst (λ (n : ℕ). n < NAME_COUNT) (sym (c.from.ensures ∙ c.order_at.ensures)) (order_is_within c.args.rank c.requires)
