use Rattle.std.proofs.Common.{◌≡◌, take}
use Rattle.vt_switch.proofs.same.are_same_consoles.Given as goal

-- the first i consoles are the same
abbrev pub invariant-loop-i : goal.invariant-loop-i
invariant-loop-i l = take l.i l.consoles ≡ take l.i l.others
