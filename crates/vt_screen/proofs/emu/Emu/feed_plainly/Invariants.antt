use Rattle.std.proofs.Common.{◌≡◌, ◌≤◌, length, take}
use Rattle.vt_screen.specs.Run.{after, outs_of_run}
use Rattle.vt_screen.proofs.emu.Emu.feed_plainly.Given as goal

abbrev pub invariant-loop-byte : goal.invariant-loop-byte
invariant-loop-byte l = record {
  few : length l.outs ≤ l.byte-index;
  done : l.self ≡ after l.fn.self (take l.byte-index l.b);
  outs : l.outs ≡ outs_of_run l.fn.self (take l.byte-index l.b);
}
