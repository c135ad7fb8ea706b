use Rattle.vt_world.proofs.for_laws.Untouched.{terminals_stay}
use Rattle.vt_world.proofs.laws.terminals_stay.Goals as goal

pub returns : goal.returns
returns c = terminals_stay
