use Rattle.std.proofs.Common.{◌==◌, ◌&&◌, ◌+◌, nat_lt, cond, None}
use Rattle.key_compile.specs.Metas.{meta_at}
use Rattle.key_compile.specs.Puts.{Puts}
use Rattle.key_compile.proofs.metas.put_metas_of.Given as goal

abbrev pub invariant-loop-c : goal.invariant-loop-c
invariant-loop-c l = Puts (λ u d. cond (u == l.t + 8 && nat_lt d l.c) (meta_at l.initial.tables l.t d) None) l.initial.tables l.tables
