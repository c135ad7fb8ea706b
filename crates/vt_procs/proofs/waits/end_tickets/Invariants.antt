use Rattle.std.proofs.Common.{◌≡◌, ◌<◌, ◌≤◌, ℕ, get_or, length}
use Rattle.vt_procs.specs.Callers.{no_caller}
use Rattle.vt_procs.specs.Tickets.{ended_by, with_waiting}
use Rattle.vt_procs.proofs.waits.end_tickets.Given as goal

abbrev pub invariant-loop-p : goal.invariant-loop-p
invariant-loop-p l = record {
  places : length l.callers ≡ length l.fn.callers;
  ended : (k : ℕ) → k < l.p
      → get_or l.callers k no_caller
      ≡ with_waiting (get_or l.fn.callers k no_caller)
      (ended_by l.ending (get_or l.fn.callers k no_caller).waiting);
  kept : (k : ℕ) → l.p ≤ k → get_or l.callers k no_caller ≡ get_or l.fn.callers k no_caller;
}
