use Rattle.std.proofs.Common.{ap, sym, ◌∙◌, arith}
use lib.Count.{count_trailing_zeros}
use Rattle.vt_units.proofs.Lanes.{run_stops, run_through}
use Rattle.vt_units.proofs.printable.printable_prefix.Goals as goal

pub returns-then-stops-ne0 : goal.returns-then-stops-ne0
returns-then-stops-ne0 c =
    let run = run_stops c.args.b.now c.loop-at.at (omega arith) (omega (arith, c.stops_in-stops.ensures))
    ∙ ap (count_trailing_zeros 64) (sym c.stops_in-stops.ensures) in
    omega (arith, run, c.loop-at.invariant.count)

pub loop-at-preserved : goal.loop-at-preserved
loop-at-preserved c =
    let run = run_through c.args.b.now c.loop-at.at (omega arith) (omega (arith, c.stops_in-stops.ensures)) in
    record { within = omega arith; count = omega (arith, run, c.loop-at.invariant.count) }
