use Rattle.std.proofs.Common.{◌≡◌, take}
use Rattle.key_machine.proofs.held.same.are_same_entries.Given as goal

-- the first i entries are the same
abbrev pub invariant-loop-i : goal.invariant-loop-i
invariant-loop-i l = take l.i l.entries ≡ take l.i l.others
