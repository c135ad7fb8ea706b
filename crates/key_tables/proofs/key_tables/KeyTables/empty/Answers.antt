use Rattle.std.proofs.Common.{arith}
use Rattle.key_tables.proofs.Holes.{empty_start, whole_start}
use Rattle.key_tables.proofs.key_tables.KeyTables.empty.Goals as goal

pub invariant_of-result : goal.invariant_of-result
invariant_of-result c = (
  whole_start c.in_ok-holes.field-0 _ _ c.in_ok-holes.ensures.whole c.in_ok-empty_funcs.ensures c.in_ok-with_capacity.ensures.items,
  omega (arith, c.in_ok-with_capacity.ensures.exact),
)

pub returns : goal.returns
returns c =
    empty_start c.args.declared.now _ _ _ c.in_ok-holes.ensures.holes (λ i. omega (arith, c.type_inv.declared i)) c.in_ok-empty_funcs.ensures c.in_ok-with_capacity.ensures.items
