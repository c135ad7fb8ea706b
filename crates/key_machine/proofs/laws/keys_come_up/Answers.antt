use Rattle.key_machine.proofs.for_laws.Histories.{all_come_up, downs_are_last}
use Rattle.key_machine.proofs.laws.keys_come_up.Goals as goal

pub returns-clause-last : goal.returns-clause-last
returns-clause-last c = downs_are_last

pub returns-clause-none : goal.returns-clause-none
returns-clause-none c = all_come_up
