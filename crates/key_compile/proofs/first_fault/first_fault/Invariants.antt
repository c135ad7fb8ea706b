use Rattle.std.proofs.Common.{◌≡◌, ◌≤◌, false, drop}
use Rattle.key_compile.specs.Faults.{first_fault}
use Rattle.key_compile.proofs.first_fault.first_fault.Given as goal

abbrev pub invariant-loop-i : goal.invariant-loop-i
invariant-loop-i l = record {
  few : l.count ≤ 256;
  same : first_fault l.n l.seen l.count (drop l.i l.lines) ≡ first_fault l.n false 0 l.lines;
}
