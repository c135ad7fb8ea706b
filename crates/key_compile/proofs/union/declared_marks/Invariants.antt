use Rattle.std.proofs.Common.{◌||◌, take}
use Rattle.std.specs.List.{list_any}
use Rattle.key_compile.specs.Union.{IsSetOf, in_union, modifies_table}
use Rattle.key_compile.proofs.union.declared_marks.Given as goal

abbrev pub invariant-loop-i : goal.invariant-loop-i
invariant-loop-i l = IsSetOf l.marks.items (λ t. in_union l.lines t || list_any (λ m. modifies_table t m.meaning) (take l.i l.lines))
