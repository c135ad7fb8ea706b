use Rattle.std.proofs.Common.{subst}
use Rattle.vt_grid.proofs.Naming.{IsFit-rows_by_number}
use Rattle.vt_grid.specs.Store.{IsFit}
use Rattle.vt_grid.proofs.rows.store.RowStore.size.Goals as goal

pub returns-clause-fit : goal.returns-clause-fit
returns-clause-fit c =
    subst IsFit c.self.view_is
    (IsFit-rows_by_number _ _ c.self.inside.ring c.self.inside.rows.items c.self.invariant.0)
