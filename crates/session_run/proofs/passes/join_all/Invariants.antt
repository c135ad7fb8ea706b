use Rattle.std.proofs.Common.{length}
use Rattle.session_run.proofs.passes.join_all.Given as goal
use Rattle.session_run.specs.Racing.{AreHome}

abbrev pub invariant-loop-outcome : goal.invariant-loop-outcome
invariant-loop-outcome g l = record {
  can_next : (goal.iterator-loop-outcome g).can_next l.outcome-iterator;
  is_finite : (goal.iterator-loop-outcome g).is_finite l.outcome-iterator;
  home : AreHome l.callers l.hub (length l.yielded) l.steward;
}
