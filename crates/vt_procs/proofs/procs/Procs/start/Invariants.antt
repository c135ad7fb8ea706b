use Rattle.std.proofs.Common.{◌≡◌, ◌<◌, ℕ, get_or, length}
use Rattle.vt_procs.specs.Callers.{no_caller, caller_at_start}
use Rattle.vt_procs.proofs.procs.Procs.start.Given as goal

abbrev pub invariant-loop-p : goal.invariant-loop-p
invariant-loop-p l = record {
  places : length l.callers ≡ 68;
  filled : (k : ℕ) → k < l.p → get_or l.callers k no_caller ≡ caller_at_start l.keyboards l.list k;
}
