use Rattle.std.proofs.Common.{◌≡◌, take}
use Rattle.key_tables.proofs.maps.copy_kept.Given as goal

abbrev pub invariant-loop-table : goal.invariant-loop-table
invariant-loop-table l = l.copies.items ≡ take l.table-index l.kept
