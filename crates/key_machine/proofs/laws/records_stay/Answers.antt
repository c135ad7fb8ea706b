use Rattle.key_machine.proofs.for_laws.Following.{records_stay}
use Rattle.key_machine.proofs.laws.records_stay.Goals as goal

pub returns : goal.returns
returns c = records_stay
