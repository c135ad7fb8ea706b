use Rattle.std.proofs.Common.{◌≡◌, ◌≤◌, ◌++◌, take, drop}
use Rattle.vt_units.specs.Numbers.{numbers_after, params_of}
use Rattle.vt_units.proofs.numbers.params_of.Given as goal

abbrev pub invariant-loop-b : goal.invariant-loop-b
invariant-loop-b l = record {
  params : take 16 (l.params ++ numbers_after l.number (drop l.b-index l.body)) ≡ params_of l.body;
  small : l.number ≤ 65535;
}
