use Rattle.std.proofs.Common.{◌≡◌, ℕ, ◌+◌, ◌<◌, get_or, length}
use Rattle.vt_base.proofs.caller_no.CallerNo.all.Given as goal

abbrev pub invariant-loop-i : goal.invariant-loop-i
invariant-loop-i l = (length l.all ≡ 68) × ((k : ℕ) → k < l.i → get_or l.all k 0 ≡ 0 + k)
