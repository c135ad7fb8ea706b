use Rattle.cooked.proofs.for_laws.Pushes.{list_is_its_pushes}
use Rattle.cooked.proofs.laws.list_is_its_pushes.Goals as goal

pub returns : goal.returns
returns c = list_is_its_pushes
