use Rattle.vt_units.proofs.Runs.{any_cut}
use Rattle.vt_units.specs.Laws.{event_effects}
use Rattle.vt_units.proofs.laws.any_cut.Goals as goal

pub returns : goal.returns
returns c = λ mode_of at a b. any_cut (event_effects mode_of) a b at
