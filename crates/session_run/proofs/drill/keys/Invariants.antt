use Rattle.std.proofs.Common.{◌≡◌, ◌+◌, ◌*◌}
use Rattle.session_run.specs.Drill.{keys}
use Rattle.session_run.proofs.drill.keys.Given as goal

abbrev pub invariant-loop-i : goal.invariant-loop-i
invariant-loop-i l = record {
  keys : l.bytes.bytes ≡ keys l._i;
  room : l.bytes.room + 2 * l._i ≡ 2 * l.n;
}
