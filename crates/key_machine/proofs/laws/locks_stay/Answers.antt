use Rattle.key_machine.proofs.for_laws.Histories.{locks_stay}
use Rattle.key_machine.proofs.laws.locks_stay.Goals as goal

pub returns : goal.returns
returns c = locks_stay
