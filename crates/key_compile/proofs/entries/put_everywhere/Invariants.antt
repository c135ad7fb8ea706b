use Rattle.std.proofs.Common.{◌==◌, cond, None, take}
use Rattle.key_compile.specs.Entries.{everywhere}
use Rattle.key_compile.specs.Puts.{Puts}
use Rattle.key_compile.proofs.entries.put_everywhere.Given as goal

abbrev pub invariant-loop-i : goal.invariant-loop-i
invariant-loop-i l = Puts (λ t c. cond (c == l.code) (everywhere (take l.i l.union) l.action t) None) l.initial.tables l.tables
