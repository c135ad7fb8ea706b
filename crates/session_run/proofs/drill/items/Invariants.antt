use Rattle.std.proofs.Common.{◌≡◌, ◌+◌}
use Rattle.session_run.proofs.Drilling.{SoFar}
use Rattle.session_run.specs.Drill.{item, opening_calls}
use Rattle.session_run.proofs.drill.items.Given as goal

abbrev pub invariant-loop-i : goal.invariant-loop-i
invariant-loop-i l = record {
  drawn : SoFar item l._i 0 l.fn.draws (opening_calls l.p) l.items.events l.draws;
  room : l.items.room + l._i ≡ l.n;
}
