use Rattle.key_compile.specs.Union.{names_table}
use Rattle.key_compile.proofs.Marking.{AddedBelow}
use Rattle.key_compile.proofs.union.mark_named.Given as goal

abbrev pub invariant-loop-t : goal.invariant-loop-t
invariant-loop-t l = AddedBelow (λ k. names_table k l.line.meaning) l.initial.marks.items l.marks.items l.t
