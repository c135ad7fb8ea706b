use Rattle.std.proofs.Common.{◌==◌, cond, None, take}
use Rattle.key_compile.specs.Entries.{action_of_table}
use Rattle.key_compile.specs.Puts.{Puts}
use Rattle.key_compile.proofs.entries.put_paired.Given as goal

abbrev pub invariant-loop-i : goal.invariant-loop-i
invariant-loop-i l = Puts (λ t c. cond (c == l.code) (action_of_table (take l.i l.union) (take l.i l.actions) t) None) l.initial.tables l.tables
