use Rattle.std.proofs.Common.{◌≡◌, take}
use Rattle.vt_world.proofs.inputs.same.are_same_inputs.Given as goal

-- the first i inputs are the same
abbrev pub invariant-loop-i : goal.invariant-loop-i
invariant-loop-i l = take l.i l.inputs ≡ take l.i l.others
