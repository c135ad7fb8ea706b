use Rattle.vt_world.proofs.for_laws.Opening.{nobody_waits_at_start}
use Rattle.vt_world.proofs.laws.nobody_waits_at_start.Goals as goal

pub returns : goal.returns
returns c = nobody_waits_at_start
