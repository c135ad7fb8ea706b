use Rattle.std.proofs.Common.{◌≡◌, ◌+◌, drop}
use Rattle.std.specs.List.{prefix_len}
use Rattle.vt_units.specs.Bytes.{is_printable}
use Rattle.vt_units.proofs.printable.short_prefix.Given as goal

abbrev pub invariant-loop-i : goal.invariant-loop-i
invariant-loop-i l = prefix_len is_printable l.b ≡ l.i + prefix_len is_printable (drop l.i l.b)
