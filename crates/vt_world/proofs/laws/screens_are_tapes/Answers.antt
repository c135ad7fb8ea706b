use Rattle.vt_world.proofs.Stated.{screens_are_tapes-screens}
use Rattle.vt_world.proofs.for_laws.Allocation.{terminals_are_allocated}
use Rattle.vt_world.proofs.laws.screens_are_tapes.Goals as goal

pub returns-clause-screens : goal.returns-clause-screens
returns-clause-screens c = screens_are_tapes-screens

pub returns-clause-terminals : goal.returns-clause-terminals
returns-clause-terminals c = terminals_are_allocated
