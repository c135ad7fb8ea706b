use Rattle.vt_switch.proofs.Stated.{each_target_was_asked_for-owners}
use Rattle.vt_world.proofs.Stated.{displays_are_lawful-lawful, displays_are_lawful-waiting}
use Rattle.vt_world.proofs.for_laws.Called.{acts_are_calls}
use Rattle.vt_world.proofs.for_laws.Displays.{acts_make_cores, owners_are_live}
use Rattle.vt_world.proofs.for_laws.Traces.{traces_apply_marks_acts, traces_apply_marks_deeds, traces_apply_marks-hops}
use Rattle.vt_world.proofs.laws.displays_are_lawful.Goals as goal

pub returns-clause-lawful : goal.returns-clause-lawful
returns-clause-lawful c = displays_are_lawful-lawful

pub returns-clause-waiting : goal.returns-clause-waiting
returns-clause-waiting c = displays_are_lawful-waiting

pub returns-clause-owners : goal.returns-clause-owners
returns-clause-owners c = owners_are_live each_target_was_asked_for-owners

pub returns-clause-acts : goal.returns-clause-acts
returns-clause-acts c = acts_make_cores

pub returns-clause-told : goal.returns-clause-told
returns-clause-told c = traces_apply_marks_acts

pub returns-clause-hops : goal.returns-clause-hops
returns-clause-hops c = traces_apply_marks-hops

pub returns-clause-trace : goal.returns-clause-trace
returns-clause-trace c = traces_apply_marks_deeds

pub returns-clause-calls : goal.returns-clause-calls
returns-clause-calls c = acts_are_calls
