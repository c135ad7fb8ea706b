use Rattle.std.proofs.Common.{◌-◌}
use Rattle.key_syms.proofs.Halves.{IsLeft}
use Rattle.key_syms.proofs.search.place_of.Given as goal

abbrev pub invariant-loop-low : goal.invariant-loop-low
invariant-loop-low l = IsLeft l.name l.low l.high

abbrev pub decreases-loop-low : goal.decreases-loop-low
decreases-loop-low l = l.high - l.low
