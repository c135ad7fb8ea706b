use Rattle.vt_world.proofs.for_laws.Opening.{tickets_are_called}
use Rattle.vt_world.proofs.laws.tickets_are_called.Goals as goal

pub returns : goal.returns
returns c = tickets_are_called
