use Rattle.std.proofs.Common.{◌≡◌, take}
use Rattle.session_order.proofs.session_progress.same.are_same_walks.Given as goal

-- the first i walks are at the same places
abbrev pub invariant-loop-i : goal.invariant-loop-i
invariant-loop-i l = take l.i l.walks ≡ take l.i l.others
