use Rattle.key_machine.proofs.for_laws.Histories.{presses_record, releases_take}
use Rattle.key_machine.proofs.laws.presses_record.Goals as goal

pub returns-clause-presses : goal.returns-clause-presses
returns-clause-presses c = presses_record

pub returns-clause-releases : goal.returns-clause-releases
returns-clause-releases c = releases_take
