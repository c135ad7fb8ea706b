use Rattle.std.proofs.Common.{◌≡◌, ◌<◌, ℕ}
use Rattle.std.specs.Prelude.{slice_get}
use Rattle.vt_explain.proofs.comparing.compare.Given as goal

abbrev pub invariant-loop-k : goal.invariant-loop-k
invariant-loop-k l = (k : ℕ) → k < l.k → slice_get l.made k ≡ slice_get l.c k
