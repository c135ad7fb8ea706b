use Rattle.std.proofs.Common.{◌≡◌, ◌≤◌, ◌-◌, length, drop}
use Rattle.vt_sgr.specs.Sgr.{sgr_skipping}
use Rattle.vt_sgr.proofs.apply_sgr.apply_all.Given as goal

abbrev pub invariant-loop-at : goal.invariant-loop-at
invariant-loop-at l =
    record {
      within : l.at ≤ length l.params;
      rest : sgr_skipping 0 (drop l.at l.params) l.p ≡ sgr_skipping 0 l.params l.initial.p;
    }

abbrev pub decreases-loop-at : goal.decreases-loop-at
decreases-loop-at l = length l.params - l.at
