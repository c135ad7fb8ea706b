use Rattle.std.proofs.Common.{[], ◌∷◌, ap, ◌∙◌, arith, rules}
use Rattle.std.proofs.lemmas.List.{places}
use Rattle.vt_grid.proofs.Naming.{changed_is}
use Rattle.vt_grid.proofs.Narrow.{changed_narrow, repeated, with_stored_cells_narrow}
use Rattle.vt_grid.specs.StoredRow.{with_stored_cells}
use Rattle.vt_grid.specs.Ring.{RowSlot}
use Rattle.vt_grid.proofs.rows.store.RowStore.write.Goals as goal

pub invariant_of-self : goal.invariant_of-self
invariant_of-self g c = (
  search (arith, rules, places),
  λ is.
      changed_narrow c.self.inside.rows.items c.from.result c.index_mut-row.result.now c.write.new.self
      (with_stored_cells c.args.x (c.args.c ∷ [])) c.index_mut-row.ensures.value
      (ap (λ (r : RowSlot). r.line) c.write.ensures)
      (λ line. with_stored_cells_narrow c.args.x (c.args.c ∷ []) line (repeated 1 c.args.c (c.stays_narrow-self-inside.ensures.one is))) (c.self.invariant.1 (c.stays_narrow-self-inside.ensures.before is)),
)

pub returns-clause-rows : goal.returns-clause-rows
returns-clause-rows g c =
    (changed_is _ _ c.self.inside.ring c.self.inside.rows.items c.self.invariant.0 c.args.self.now
    c.args.y c.from.result c.index_mut-row.result.now c.write.new.self
    (with_stored_cells c.args.x (c.args.c ∷ [])) c.self.view_is c.requires.row (c.from.ensures ∙ c.at-number.ensures)
    c.index_mut-row.ensures.value (ap (λ (r : RowSlot). r.line) c.write.ensures))
