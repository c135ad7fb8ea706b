use Rattle.std.proofs.Common.{◌≡◌, ◌++◌, take, drop}
use Rattle.vt_world.proofs.inputs.same.copy_inputs.Given as goal

-- the first i inputs are the other ones
abbrev pub invariant-loop-i : goal.invariant-loop-i
invariant-loop-i l = l.inputs ≡ take l.i l.others ++ drop l.i l.fn.inputs
