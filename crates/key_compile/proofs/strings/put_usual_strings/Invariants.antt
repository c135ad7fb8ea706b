use Rattle.std.proofs.Common.{nat_lt, cond, None}
use Rattle.key_compile.specs.Puts.{PutsTexts}
use Rattle.key_compile.specs.Strings.{usual_string}
use Rattle.key_compile.proofs.strings.put_usual_strings.Given as goal

abbrev pub invariant-loop-i : goal.invariant-loop-i
invariant-loop-i l = PutsTexts (λ j. cond (nat_lt j l.i) (usual_string j) None) l.initial.tables l.tables
