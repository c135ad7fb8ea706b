use Rattle.key_compile.specs.Metas.{metas_below}
use Rattle.key_compile.specs.Puts.{Puts}
use Rattle.key_compile.proofs.metas.put_metas.Given as goal

abbrev pub invariant-loop-t : goal.invariant-loop-t
invariant-loop-t l = Puts (metas_below l.initial.tables l.t) l.initial.tables l.tables
