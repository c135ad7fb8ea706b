use Rattle.std.proofs.Common.{◌≡◌, ℕ, ◌+◌, ◌<◌, get_or}
use Rattle.vt_grid.specs.Store.{rotation_by}
use Rattle.vt_grid.proofs.rows.ring.read_part.Given as goal

abbrev pub invariant-loop-i : goal.invariant-loop-i
invariant-loop-i l =
    (k : ℕ) → k < l.i → get_or l.part k 0 ≡ get_or (rotation_by l.head l.numbers) (l.top + k) 0
