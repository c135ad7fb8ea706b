use Rattle.key_text.proofs.for_laws.PartsRead.{faults_are_first, faults_stop}
use Rattle.key_text.proofs.laws.faults_stop.Goals as goal

pub returns-clause-stop : goal.returns-clause-stop
returns-clause-stop c = faults_stop

pub returns-clause-first : goal.returns-clause-first
returns-clause-first c = faults_are_first
