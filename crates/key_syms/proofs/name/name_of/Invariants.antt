use Rattle.key_syms.proofs.Rows.{OthersBelow}
use Rattle.key_syms.proofs.name.name_of.Given as goal

abbrev pub invariant-loop-place : goal.invariant-loop-place
invariant-loop-place l = OthersBelow l.a l.place
