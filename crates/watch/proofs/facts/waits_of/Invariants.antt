use Rattle.std.proofs.Common.{◌≡◌, ◌++◌, drop, map}
use Rattle.watch.specs.Facts.{wait_of, waits_of}
use Rattle.watch.proofs.facts.waits_of.Given as goal

abbrev pub invariant-loop-p : goal.invariant-loop-p
invariant-loop-p l = l.waits.items ++ map (wait_of l.world) (drop l.p-index l.all) ≡ waits_of l.world
