use Rattle.key_compile.specs.Union.{is_usual_table}
use Rattle.key_compile.proofs.Marking.{SetBelow}
use Rattle.key_compile.proofs.union.usual_tables.Given as goal

abbrev pub invariant-loop-t : goal.invariant-loop-t
invariant-loop-t l = SetBelow l.marks.items is_usual_table l.t
