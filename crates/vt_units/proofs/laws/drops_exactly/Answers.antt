use Rattle.vt_units.proofs.for_laws.Drops.{drops_exactly}
use Rattle.vt_units.proofs.laws.drops_exactly.Goals as goal

pub returns : goal.returns
returns c = drops_exactly
