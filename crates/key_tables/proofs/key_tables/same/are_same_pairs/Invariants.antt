use Rattle.std.proofs.Common.{◌≡◌, take}
use Rattle.key_tables.proofs.key_tables.same.are_same_pairs.Given as goal

-- the first i pairs are the same
abbrev pub invariant-loop-i : goal.invariant-loop-i
invariant-loop-i l = take l.i l.pairs ≡ take l.i l.others
