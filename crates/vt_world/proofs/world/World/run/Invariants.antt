use Rattle.std.proofs.Common.{◌≡◌, ◌≤◌, ◌-◌, ◌*◌, length, take}
use Rattle.vt_screen.specs.Asking.{requests}
use Rattle.vt_world.specs.Terminals.{said_of, terminal_at}
use Rattle.vt_world.proofs.Writes.{ran}
use Rattle.vt_world.proofs.world.World.run.Given as goal

abbrev pub invariant-loop-at : goal.invariant-loop-at
invariant-loop-at l = record {
  within : l.at ≤ length l.b;
  done : l.self ≡ ran l.fn.self l.c (take l.at l.b);
  room : length l.self.trace.marks
      ≤ 3 * requests (said_of (terminal_at l.fn.self.terminals l.c) (take l.at l.b));
}

abbrev pub decreases-loop-at : goal.decreases-loop-at
decreases-loop-at l = length l.b - l.at
