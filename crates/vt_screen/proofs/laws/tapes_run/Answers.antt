use Rattle.vt_screen.proofs.for_laws.Tapes.{stretches_run, any_tape_cut}
use Rattle.vt_screen.proofs.laws.tapes_run.Goals as goal

pub returns-clause-stretches : goal.returns-clause-stretches
returns-clause-stretches c = stretches_run

pub returns-clause-cuts : goal.returns-clause-cuts
returns-clause-cuts c = any_tape_cut
