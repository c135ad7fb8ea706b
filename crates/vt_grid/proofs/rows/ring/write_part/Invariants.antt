use Rattle.std.proofs.Common.{◌≡◌, ◌+◌}
use Rattle.vt_grid.specs.Store.{rotation_by}
use lib.Seq.{paste}
use Rattle.vt_grid.proofs.rows.ring.write_part.Given as goal

abbrev pub invariant-loop-i : goal.invariant-loop-i
invariant-loop-i g l = record {
  numbers : rotation_by l.head l.numbers ≡ paste (rotation_by l.head l.fn.numbers) l.top l.part l.i;
  steps : l.steps ≡ l.initial.steps + l.i;
}
