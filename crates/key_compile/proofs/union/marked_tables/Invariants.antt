use Rattle.std.proofs.Common.{◌≡◌, false}
use Rattle.std.specs.List.{slice_index_or}
use Rattle.key_compile.specs.Union.{passing_below}
use Rattle.key_compile.proofs.union.marked_tables.Given as goal

abbrev pub invariant-loop-t : goal.invariant-loop-t
invariant-loop-t l = l.tables.items ≡ passing_below (λ t. slice_index_or l.marks t false) l.t
