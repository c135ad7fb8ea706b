use Rattle.std.proofs.Common.{subst}
use Rattle.std.specs.Prelude.{All}
use Rattle.vt_grid.proofs.Narrow.{rows_by_number_narrow, shown_narrow}
use Rattle.vt_grid.specs.StoredRow.{IsNarrowLine}
use Rattle.vt_grid.specs.Store.{Store}
use Rattle.vt_grid.proofs.rows.store.RowStore.is_narrow.Goals as goal

pub returns-clause-lines : goal.returns-clause-lines
returns-clause-lines c = λ is.
    subst (λ (s : Store). All IsNarrowLine s.lines) c.self.view_is
    (rows_by_number_narrow c.self.inside.ring c.self.inside.rows.items (c.self.invariant.1 is))

pub returns-clause-grid : goal.returns-clause-grid
returns-clause-grid c = λ is.
    shown_narrow c.args.self.now
    (subst (λ (s : Store). All IsNarrowLine s.lines) c.self.view_is
    (rows_by_number_narrow c.self.inside.ring c.self.inside.rows.items (c.self.invariant.1 is)))
