use Rattle.std.proofs.Common.{subst}
use Rattle.vt_grid.proofs.Shown.{IsFull_shown}
use Rattle.vt_grid.specs.Grid.{IsFull}
use Rattle.vt_grid.proofs.grid.Grid.size.Goals as goal

pub returns-clause-full : goal.returns-clause-full
returns-clause-full c = subst IsFull c.self.view_is (IsFull_shown _ c.size.ensures.fit)
