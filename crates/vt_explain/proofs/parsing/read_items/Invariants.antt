use Rattle.std.proofs.Common.{length}
use Rattle.vt_explain.proofs.Certs.{AreSoFar}
use Rattle.vt_explain.proofs.parsing.read_items.Given as goal

abbrev pub invariant-loop-rest : goal.invariant-loop-rest
invariant-loop-rest l = AreSoFar l.text l.items.items l.rest

abbrev pub decreases-loop-rest : goal.decreases-loop-rest
decreases-loop-rest l = length l.rest
