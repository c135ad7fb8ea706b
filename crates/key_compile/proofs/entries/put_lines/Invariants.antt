use Rattle.std.proofs.Common.{take}
use Rattle.key_compile.specs.Entries.{last_action}
use Rattle.key_compile.specs.Puts.{Puts}
use Rattle.key_compile.proofs.entries.put_lines.Given as goal

abbrev pub invariant-loop-i : goal.invariant-loop-i
invariant-loop-i l = Puts (last_action l.union (take l.i l.lines)) l.initial.tables l.tables
