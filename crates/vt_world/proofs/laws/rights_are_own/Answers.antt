use Rattle.vt_world.proofs.for_laws.Admissions.{admissions_are_starts, admissions_come_first}
use Rattle.vt_world.proofs.for_laws.Rights.{rights_are_own}
use Rattle.vt_world.proofs.laws.rights_are_own.Goals as goal

pub returns-clause-own : goal.returns-clause-own
returns-clause-own c = rights_are_own

pub returns-clause-first : goal.returns-clause-first
returns-clause-first c = admissions_come_first

pub returns-clause-starts : goal.returns-clause-starts
returns-clause-starts c = admissions_are_starts
