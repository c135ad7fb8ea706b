use Rattle.key_text.proofs.for_laws.Bounds.{bounds_stop}
use Rattle.key_text.proofs.laws.bounds_stop.Goals as goal

pub returns : goal.returns
returns c = bounds_stop
