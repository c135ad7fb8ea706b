use Rattle.std.proofs.Common.{◌≡◌, ◌+◌, ◌-◌, ◌≤◌, length, drop}
use Rattle.std.specs.List.{prefix_len}
use Rattle.vt_units.specs.Bytes.{is_printable}
use Rattle.vt_units.proofs.printable.printable_prefix.Given as goal

abbrev pub invariant-loop-at : goal.invariant-loop-at
invariant-loop-at l = record {
  within : l.at ≤ length l.b;
  count : prefix_len is_printable l.b ≡ l.at + prefix_len is_printable (drop l.at l.b);
}

abbrev pub decreases-loop-at : goal.decreases-loop-at
decreases-loop-at l = length l.b - l.at
