use Rattle.std.proofs.Common.{◌≡◌, take}
use Rattle.vt_procs.proofs.same.are_same_callers.Given as goal

-- the first p callers are the same
abbrev pub invariant-loop-p : goal.invariant-loop-p
invariant-loop-p l = take l.p l.callers ≡ take l.p l.others
