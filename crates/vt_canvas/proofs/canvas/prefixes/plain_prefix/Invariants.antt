use Rattle.std.proofs.Common.{◌≡◌, ◌≤◌, ◌+◌, ◌-◌, length, drop}
use Rattle.std.specs.List.{prefix_len}
use Rattle.vt_cells.specs.Width.{is_plain}
use Rattle.vt_canvas.proofs.canvas.prefixes.plain_prefix.Given as goal

abbrev pub invariant-loop-at : goal.invariant-loop-at
invariant-loop-at l = record {
  count : prefix_len is_plain l.codes ≡ l.at + prefix_len is_plain (drop l.at l.codes);
  within : l.at ≤ length l.codes;
}

abbrev pub decreases-loop-at : goal.decreases-loop-at
decreases-loop-at l = length l.codes - l.at
