use Rattle.std.proofs.Common.{◌≡◌, ◌<◌, ◌≤◌, ◌+◌, ◌-◌, ◌++◌, ℕ, drop, length, map, take}
use Rattle.screen_c.specs.Shown.{c_out}
use Rattle.vt_screen.specs.Run.{after, outs_of_run}
use Rattle.screen_c.proofs.feeding.feed.Given as goal

abbrev pub invariant-loop-n : goal.invariant-loop-n
invariant-loop-n l = record {
  within : l.at ≤ length l.b;
  room : l.n ≤ length l.places;
  size : length l.places ≡ length l.fn.places;
  screen : l.emu ≡ after l.fn.emu (take l.at l.b);
  first : (k : ℕ) → k < l.at → length (outs_of_run l.fn.emu (take k l.b)) < length l.fn.places;
  count : l.n ≡ length (outs_of_run l.fn.emu (take l.at l.b));
  places : l.places ≡ map c_out (outs_of_run l.fn.emu (take l.at l.b)) ++ drop l.n l.fn.places;
}

abbrev pub decreases-loop-n : goal.decreases-loop-n
decreases-loop-n l = (length l.b - l.at) + (length l.places - l.n)
