use Rattle.std.proofs.Common.{◌≡◌, ◌≤◌, ◌-◌, ◌++◌, drop, length, take}
use Rattle.screen_c.specs.Marks.{changed_flags}
use Rattle.screen_c.proofs.marks.put_flags.Given as goal

abbrev pub invariant-loop-n : goal.invariant-loop-n
invariant-loop-n l = record {
  within : l.n ≤ l.count;
  size : length l.places ≡ length l.fn.places;
  places : l.places ≡ take l.n (changed_flags l.mark l.grid) ++ drop l.n l.fn.places;
}

abbrev pub decreases-loop-n : goal.decreases-loop-n
decreases-loop-n l = l.count - l.n
