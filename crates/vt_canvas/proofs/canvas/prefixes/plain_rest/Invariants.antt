use Rattle.std.proofs.Common.{◌≡◌, ◌+◌, drop}
use Rattle.std.specs.List.{prefix_len}
use Rattle.vt_cells.specs.Width.{is_plain}
use Rattle.vt_canvas.proofs.canvas.prefixes.plain_rest.Given as goal

abbrev pub invariant-loop-i : goal.invariant-loop-i
invariant-loop-i l = prefix_len is_plain l.codes ≡ l.i + prefix_len is_plain (drop l.i l.codes)
