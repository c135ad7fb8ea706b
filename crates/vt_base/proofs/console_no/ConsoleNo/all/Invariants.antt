use Rattle.std.proofs.Common.{◌≡◌, ℕ, ◌+◌, ◌<◌, get_or, length}
use Rattle.vt_base.proofs.console_no.ConsoleNo.all.Given as goal

abbrev pub invariant-loop-i : goal.invariant-loop-i
invariant-loop-i l = (length l.all ≡ 63) × ((k : ℕ) → k < l.i → get_or l.all k 0 ≡ 1 + k)
