use Rattle.std.proofs.Common.{◌≡◌, ◌++◌, drop, take}
use Rattle.vt_redraw.specs.State.{stops_from}
use Rattle.vt_redraw.proofs.state.add_stops.Given as goal

abbrev pub invariant-loop-x : goal.invariant-loop-x
invariant-loop-x l =
    l.text.bytes ++ stops_from l.x (drop l.x (take l.cols l.stops))
    ≡ l.initial.text.bytes ++ stops_from 0 (take l.cols l.stops)
