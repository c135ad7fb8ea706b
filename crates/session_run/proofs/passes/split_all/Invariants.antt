use Rattle.std.proofs.Common.{◌≡◌, length}
use Rattle.session_run.proofs.passes.split_all.Given as goal
use Rattle.session_run.specs.Racing.{AreFresh, IsSplit}

abbrev pub invariant-loop-p : goal.invariant-loop-p
invariant-loop-p g l = record {
  split : IsSplit l.hub l.numbers l.p-index l.steward;
  many : length l.passes.items ≡ l.p-index;
  fresh : AreFresh l.hub l.numbers l.passes.items;
}
