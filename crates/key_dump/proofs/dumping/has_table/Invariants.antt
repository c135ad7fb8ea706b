use Rattle.std.proofs.Common.{◌≡◌, false, is_some, take}
use Rattle.std.specs.List.{list_any}
use Rattle.key_dump.proofs.dumping.has_table.Given as goal

abbrev pub invariant-loop-t : goal.invariant-loop-t
invariant-loop-t l = list_any is_some (take l.t l.tables.maps) ≡ false
