use Rattle.std.proofs.Common.{arith}
use Rattle.vt_grid.proofs.Split.{whole_first, whole_none, whole_past}
use Rattle.vt_grid.proofs.grid.Grid.splits.Goals as goal

pub returns-then-x-eq0-clause-none : goal.returns-then-x-eq0-clause-none
returns-then-x-eq0-clause-none c not_split =
    rw c.if-x-eq0.true (whole_first c.args.self.now c.args.y)

pub returns-then-size-x-clause-none : goal.returns-then-size-x-clause-none
returns-then-size-x-clause-none c not_split =
    whole_past c.args.self.now c.args.y c.args.x c.size.ensures.full (omega arith)

pub returns-clause-none : goal.returns-clause-none
returns-clause-none c not_half =
    whole_none c.args.self.now c.args.y c.args.x c.at.result c.at.ensures not_half
