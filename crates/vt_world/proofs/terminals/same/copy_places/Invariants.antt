use Rattle.std.proofs.Common.{◌≡◌, ◌++◌, take, drop}
use Rattle.vt_world.proofs.terminals.same.copy_places.Given as goal

-- the first i places are the other ones
abbrev pub invariant-loop-i : goal.invariant-loop-i
invariant-loop-i l = l.places ≡ take l.i l.others ++ drop l.i l.fn.places
