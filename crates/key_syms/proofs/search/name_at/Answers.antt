use Rattle.std.proofs.Common.{arith}
use Rattle.key_syms.proofs.Places.{name_is_within}
use Rattle.key_syms.proofs.search.name_at.Goals as goal

pub part_of_names-requires-clause-within : goal.part_of_names-requires-clause-within
part_of_names-requires-clause-within c =
    omega (arith, name_is_within c.args.place c.requires)
