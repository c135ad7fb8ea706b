use Rattle.std.proofs.Common.{◌≡◌, take}
use Rattle.key_compile.specs.Dumpable.{AreFit}
use Rattle.key_compile.specs.Pairs.{pairs_in}
use Rattle.key_compile.proofs.pairs.pairs_in.Given as goal

abbrev pub invariant-loop-i : goal.invariant-loop-i
invariant-loop-i l = record {
  pairs : l.pairs.items ≡ pairs_in (take l.i l.lines);
  fit : AreFit (take l.i l.lines);
}
