use Rattle.cooked.proofs.for_laws.Pushes.{one_more}
use Rattle.cooked.proofs.laws.one_more.Goals as goal

pub returns : goal.returns
returns c = one_more
