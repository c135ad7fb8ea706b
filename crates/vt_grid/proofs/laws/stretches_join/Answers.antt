use Rattle.vt_grid.proofs.Joins.{stretches_join}
use Rattle.vt_grid.proofs.laws.stretches_join.Goals as goal

pub returns : goal.returns
returns c = stretches_join
