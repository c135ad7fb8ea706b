use Rattle.key_compile.proofs.for_laws.Same.{one_value}
use Rattle.key_compile.proofs.laws.one_value.Goals as goal

pub returns : goal.returns
returns c = one_value
