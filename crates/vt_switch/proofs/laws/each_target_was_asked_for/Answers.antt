use Rattle.vt_switch.proofs.for_laws.Lawful.{owners_stay_live, target_law}
use Rattle.vt_switch.proofs.laws.each_target_was_asked_for.Goals as goal

pub returns-clause-asked : goal.returns-clause-asked
returns-clause-asked c = target_law

pub returns-clause-owners : goal.returns-clause-owners
returns-clause-owners c = owners_stay_live
