use Rattle.std.proofs.Common.{◌≡◌, take}
use Rattle.vt_world.proofs.keyboard_set.same.are_same_scanners.Given as goal

-- the first i scanners are the same
abbrev pub invariant-loop-i : goal.invariant-loop-i
invariant-loop-i l = take l.i l.scanners ≡ take l.i l.others
