use Rattle.std.proofs.Common.{◌||◌, false, take}
use Rattle.std.specs.List.{list_any}
use Rattle.key_compile.specs.Union.{IsSetOf, names_table}
use Rattle.key_compile.proofs.union.named_tables.Given as goal

abbrev pub invariant-loop-i : goal.invariant-loop-i
invariant-loop-i l = IsSetOf l.marks.items (λ t. false || list_any (λ m. names_table t m.meaning) (take l.i l.lines))
