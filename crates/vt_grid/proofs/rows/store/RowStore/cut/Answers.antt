use Rattle.std.proofs.Common.{ap, ◌∙◌, arith, rules}
use Rattle.std.proofs.lemmas.List.{places}
use Rattle.vt_grid.proofs.Naming.{changed_is}
use Rattle.vt_grid.proofs.Narrow.{changed_narrow, cut_narrow}
use Rattle.vt_grid.specs.StoredRow.{cut_at}
use Rattle.vt_grid.specs.Ring.{RowSlot}
use Rattle.vt_grid.proofs.rows.store.RowStore.cut.Goals as goal

pub invariant_of-self : goal.invariant_of-self
invariant_of-self g c = (
  search (arith, rules, places),
  λ is.
      changed_narrow c.self.inside.rows.items c.from.result c.index_mut-row.result.now c.cut.new.self
      (cut_at c.args.len c.args.tail) c.index_mut-row.ensures.value
      (ap (λ (r : RowSlot). r.line) c.cut.ensures)
      (λ line. cut_narrow c.args.len c.args.tail line (c.stays_narrow-self-inside.ensures.one is)) (c.self.invariant.1 (c.stays_narrow-self-inside.ensures.before is)),
)

pub returns-clause-rows : goal.returns-clause-rows
returns-clause-rows g c =
    (changed_is _ _ c.self.inside.ring c.self.inside.rows.items c.self.invariant.0 c.args.self.now
    c.args.y c.from.result c.index_mut-row.result.now c.cut.new.self
    (cut_at c.args.len c.args.tail) c.self.view_is c.requires.row (c.from.ensures ∙ c.at-number.ensures)
    c.index_mut-row.ensures.value (ap (λ (r : RowSlot). r.line) c.cut.ensures))
