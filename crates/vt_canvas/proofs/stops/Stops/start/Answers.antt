use Rattle.std.proofs.Common.{arith}
use Rattle.vt_canvas.proofs.Start.{stops_are}
use Rattle.vt_canvas.proofs.stops.Stops.start.Goals as goal

pub returns : goal.returns
returns c =
    stops_are c.loop-x.columns c.loop-x.invariant.count
    (λ k d within. c.loop-x.invariant.done k d (omega (arith, within)))
