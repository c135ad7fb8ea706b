use Rattle.std.proofs.Common.{◌≡◌, IsTrue, take}
use Rattle.vt_procs.proofs.opens.same.are_same_places.Given as goal

-- if `same`, the first i places are the same
abbrev pub invariant-loop-i : goal.invariant-loop-i
invariant-loop-i l = IsTrue l.same → take l.i l.places ≡ take l.i l.others
