use Rattle.std.proofs.Common.{take}
use Rattle.vt_free.specs.Judging.{IsAfter}
use Rattle.vt_free.proofs.judging.judge.Given as goal

abbrev pub invariant-loop-i : goal.invariant-loop-i
invariant-loop-i l = IsAfter l.fn.start (take l.i l.entries) l.judge
