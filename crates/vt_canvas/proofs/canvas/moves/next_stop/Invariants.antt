use Rattle.std.proofs.Common.{◌≡◌, ◌≤◌, ◌+◌, ◌-◌, min, not, drop}
use Rattle.std.specs.List.{prefix_len}
use Rattle.vt_canvas.proofs.canvas.moves.next_stop.Given as goal

abbrev pub invariant-loop-x : goal.invariant-loop-x
invariant-loop-x l = record {
  within : l.x ≤ l.last;
  stop :
      min (l.x + 1 + prefix_len not (drop (l.x + 1) l.stops)) l.last
      ≡ min (l.fn.x + 1 + prefix_len not (drop (l.fn.x + 1) l.stops)) l.last;
}

abbrev pub decreases-loop-x : goal.decreases-loop-x
decreases-loop-x l = l.last - l.x
