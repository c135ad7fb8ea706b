use Rattle.vt_world.proofs.for_laws.Unchanged.{broken_waits_are_taken, later_answers_stay, refusals_can_go, refusals_change_nothing}
use Rattle.vt_world.proofs.laws.refused_calls_change_nothing.Goals as goal

pub returns-clause-refused : goal.returns-clause-refused
returns-clause-refused c = refusals_change_nothing

pub returns-clause-later : goal.returns-clause-later
returns-clause-later c = later_answers_stay

pub returns-clause-runs : goal.returns-clause-runs
returns-clause-runs c = refusals_can_go

pub returns-clause-broken : goal.returns-clause-broken
returns-clause-broken c = broken_waits_are_taken
