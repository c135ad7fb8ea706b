use Rattle.std.proofs.Common.{◌≡◌, ◌≤◌, ◌-◌, length, take}
use Rattle.vt_screen.specs.Hearing.{HearsAll}
use Rattle.vt_screen.specs.Run.{after, outs_of_run}
use Rattle.vt_screen.proofs.emu.Emu.write_with.Given as goal

abbrev pub invariant-loop-at : goal.invariant-loop-at
invariant-loop-at g l = record {
  within : l.at ≤ length l.b;
  done : l.self ≡ after l.fn.self (take l.at l.b);
  heard : HearsAll g.L.Listener.hears l.fn.listener (outs_of_run l.fn.self (take l.at l.b)) l.listener;
}

abbrev pub decreases-loop-at : goal.decreases-loop-at
decreases-loop-at g l = length l.b - l.at
