use Rattle.std.proofs.Common.{◌≡◌, take}
use Rattle.key_tables.proofs.table.same.are_same_actions.Given as goal

-- the first i actions are the same
abbrev pub invariant-loop-i : goal.invariant-loop-i
invariant-loop-i l = take l.i l.actions ≡ take l.i l.others
