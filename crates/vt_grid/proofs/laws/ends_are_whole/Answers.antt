use Rattle.vt_grid.proofs.Joins.{ends_are_whole}
use Rattle.vt_grid.proofs.laws.ends_are_whole.Goals as goal

pub returns : goal.returns
returns c = ends_are_whole
