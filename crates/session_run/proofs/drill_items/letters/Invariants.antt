use Rattle.std.proofs.Common.{◌≡◌, ◌+◌, []}
use Rattle.session_run.proofs.Drilling.{SoFar}
use Rattle.session_run.specs.Drill.{letter}
use Rattle.session_run.proofs.drill_items.letters.Given as goal

abbrev pub invariant-loop-i : goal.invariant-loop-i
invariant-loop-i l = record {
  drawn : SoFar letter l._i 0 l.fn.draws [] l.letters.bytes l.draws;
  room : l.letters.room + l._i ≡ l.n;
}
