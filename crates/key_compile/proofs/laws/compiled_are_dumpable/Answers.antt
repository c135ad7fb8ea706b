use Rattle.key_compile.proofs.for_laws.Dumpable.{compiled_are_dumpable}
use Rattle.key_compile.proofs.laws.compiled_are_dumpable.Goals as goal

pub returns : goal.returns
returns c = compiled_are_dumpable
