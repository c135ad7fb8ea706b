use Rattle.vt_units.proofs.Comes.{sequences_are_units}
use Rattle.vt_units.proofs.laws.sequences_are_units.Goals as goal

pub returns : goal.returns
returns c = sequences_are_units
