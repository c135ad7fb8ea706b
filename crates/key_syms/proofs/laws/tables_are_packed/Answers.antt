use Rattle.key_syms.proofs.Computed.{acts_packed, names_packed}
use Rattle.key_syms.proofs.laws.tables_are_packed.Goals as goal

pub returns-clause-names : goal.returns-clause-names
returns-clause-names c = names_packed

pub returns-clause-acts : goal.returns-clause-acts
returns-clause-acts c = acts_packed
