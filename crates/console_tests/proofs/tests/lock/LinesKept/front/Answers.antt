use Rattle.std.proofs.Common.{arith}
use Rattle.std.proofs.lemmas.List.{length-map}
use Rattle.console_tests.proofs.tests.lock.LinesKept.front.Goals as goal

pub overflow_add-result : goal.overflow_add-result
overflow_add-result c = let few = simp length-map at c.requires in omega arith
