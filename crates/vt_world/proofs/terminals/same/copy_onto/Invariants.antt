use Rattle.std.proofs.Common.{◌≡◌, ◌++◌, drop, length, take}
use Rattle.vt_world.specs.Rooms.{AreHeldBy}
use Rattle.vt_world.proofs.terminals.same.copy_onto.Given as goal

-- the first i places are the other ones, and the grids of the rest are there
abbrev pub invariant-loop-i : goal.invariant-loop-i
invariant-loop-i l = record {
  copied : l.places ≡ take l.i l.others ++ drop l.i l.fn.places;
  many : length l.grids ≡ length l.others;
  fit : AreHeldBy l.i (length l.others) l.fn.places l.grids l.others;
}
