use Rattle.vt_units.proofs.Printables.{controls_are_units}
use Rattle.vt_units.proofs.laws.controls_are_units.Goals as goal

pub returns : goal.returns
returns c = controls_are_units
