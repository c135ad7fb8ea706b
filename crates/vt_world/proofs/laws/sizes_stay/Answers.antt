use Rattle.vt_world.proofs.for_laws.Sizes.{sizes_stay}
use Rattle.vt_world.proofs.laws.sizes_stay.Goals as goal

pub returns : goal.returns
returns c = sizes_stay
