use Rattle.std.proofs.Common.{◌≡◌, ℕ, ◌+◌, ◌<◌, get_or, length}
use Rattle.vt_base.proofs.caller_no.CallerNo.processes.Given as goal

abbrev pub invariant-loop-i : goal.invariant-loop-i
invariant-loop-i l = (length l.all ≡ 64) × ((k : ℕ) → k < l.i → get_or l.all k 0 ≡ 1 + k)
