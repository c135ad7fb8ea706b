use Rattle.std.proofs.Common.{◌≡◌, ◌++◌, take, drop}
use Rattle.session_order.proofs.session_progress.same.copy_walks.Given as goal

-- the first i walks are at the others' places
abbrev pub invariant-loop-i : goal.invariant-loop-i
invariant-loop-i l = l.walks ≡ take l.i l.others ++ drop l.i l.fn.walks
