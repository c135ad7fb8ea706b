use Rattle.vt_grid.specs.Ring.{IsRising}
use Rattle.vt_grid.proofs.rows.ring.Ring.rising.Given as goal

abbrev pub invariant-loop-number : goal.invariant-loop-number
invariant-loop-number l = IsRising l.number l.numbers.items
