use Rattle.std.proofs.Common.{◌≡◌, take}
use Rattle.key_tables.proofs.maps.same.are_same_tables.Given as goal

-- the first i tables are the same
abbrev pub invariant-loop-i : goal.invariant-loop-i
invariant-loop-i l = take l.i l.tables ≡ take l.i l.others
