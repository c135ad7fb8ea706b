use Rattle.session_order.proofs.for_laws.Progress.{rounds-go-on, serial_ends}
use Rattle.session_order.proofs.Turns.{finished_stays, rounds_more, serial_one}
use Rattle.session_order.proofs.Turns.{serial_right}
use Rattle.session_order.proofs.laws.serial_laws.Goals as goal

pub returns-clause-stays : goal.returns-clause-stays
returns-clause-stays c = finished_stays

pub returns-clause-one : goal.returns-clause-one
returns-clause-one c = serial_one

pub returns-clause-right : goal.returns-clause-right
returns-clause-right c = serial_right

pub returns-clause-goes_on : goal.returns-clause-goes_on
returns-clause-goes_on c = rounds-go-on

pub returns-clause-ends : goal.returns-clause-ends
returns-clause-ends c = serial_ends

pub returns-clause-sum : goal.returns-clause-sum
returns-clause-sum c = rounds_more
