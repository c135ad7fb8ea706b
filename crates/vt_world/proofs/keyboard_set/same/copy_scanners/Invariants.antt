use Rattle.std.proofs.Common.{◌≡◌, ◌++◌, take, drop}
use Rattle.vt_world.proofs.keyboard_set.same.copy_scanners.Given as goal

-- the first i scanners are the other ones
abbrev pub invariant-loop-i : goal.invariant-loop-i
invariant-loop-i l = l.scanners ≡ take l.i l.others ++ drop l.i l.fn.scanners
