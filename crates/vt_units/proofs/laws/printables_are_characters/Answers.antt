use Rattle.vt_units.proofs.Printables.{printables_are_characters}
use Rattle.vt_units.proofs.laws.printables_are_characters.Goals as goal

pub returns : goal.returns
returns c = printables_are_characters
