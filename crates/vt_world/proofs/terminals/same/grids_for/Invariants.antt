use Rattle.std.proofs.Common.{◌≡◌, length}
use Rattle.vt_world.specs.Rooms.{AreHeldBy}
use Rattle.vt_world.proofs.terminals.same.grids_for.Given as goal

-- the first i places have a grid if they need one
abbrev pub invariant-loop-i : goal.invariant-loop-i
invariant-loop-i l = record {
  many : length l.grids.items ≡ l.i;
  fit : AreHeldBy 0 l.i l.places l.grids.items l.others;
}
