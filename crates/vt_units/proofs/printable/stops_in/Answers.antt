use Rattle.std.proofs.Common.{◌+◌, ◌-◌, ◌%◌}
use Rattle.std.proofs.lemmas.Simd.{zip2_splat}
use Rattle.vt_units.proofs.Lanes.{stops_mask}
use Rattle.vt_units.proofs.printable.stops_in.Goals as goal

pub returns : goal.returns
returns c =
    let v = c.args.v in
    stops_mask v _ c.fits-v.0 c.fits-v.1 (zip2_splat (λ a b. (a + (256 - b)) % 256) v 16 32 c.fits-v.0)
