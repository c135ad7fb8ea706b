use Rattle.key_machine.proofs.for_laws.Following.{unplug_takes}
use Rattle.key_machine.proofs.laws.unplug_takes.Goals as goal

pub returns : goal.returns
returns c = unplug_takes
