use Rattle.std.proofs.Common.{◌≡◌, ◌<◌, ℕ, Bool, length, get_or}
use Rattle.vt_canvas.specs.Screen.{is_start_stop}
use Rattle.vt_canvas.proofs.stops.Stops.start.Given as goal

abbrev pub invariant-loop-x : goal.invariant-loop-x
invariant-loop-x l = record {
  count : length l.columns ≡ 255;
  done : (k : ℕ) (d : Bool) → k < l.x → get_or l.columns k d ≡ is_start_stop k;
}
