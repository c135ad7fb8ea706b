use Rattle.vt_world.specs.Rooms.{HaveRoom}
use Rattle.vt_world.proofs.terminals.same.have_room.Given as goal

-- the first i places have room
abbrev pub invariant-loop-i : goal.invariant-loop-i
invariant-loop-i l = HaveRoom l.places l.others l.i
