use Rattle.std.proofs.Common.{◌-◌, ap, ◌∙◌, arith, rules}
use Rattle.std.proofs.lemmas.List.{places}
use Rattle.vt_grid.proofs.Edited.{shown_cut_from}
use Rattle.vt_grid.proofs.Naming.{changed_is}
use Rattle.vt_grid.proofs.Narrow.{changed_narrow, cut_narrow, stored_up_to_narrow}
use Rattle.vt_grid.specs.Store.{grid_view}
use Rattle.vt_grid.specs.StoredRow.{cut_at, stored_up_to}
use Rattle.vt_grid.specs.Ring.{RowSlot}
use Rattle.vt_grid.proofs.rows.store.RowStore.cut_from.Goals as goal

pub invariant_of-self : goal.invariant_of-self
invariant_of-self c = (
  search (arith, rules, places),
  λ is.
      changed_narrow c.self.inside.rows.items c.from.result c.index_mut-row.result.now c.cut.new.self
      (λ line. cut_at c.args.x c.args.c (stored_up_to c.args.x line)) c.index_mut-row.ensures.value
      (ap (λ (r : RowSlot). r.line) c.cut.ensures
      ∙ ap (λ (r : RowSlot). cut_at c.args.x c.args.c r.line) c.reach.ensures)
      (λ line h. cut_narrow c.args.x c.args.c (stored_up_to c.args.x line) (c.stays_narrow-self-inside.ensures.one is)
      (stored_up_to_narrow c.args.x line h)) (c.self.invariant.1 (c.stays_narrow-self-inside.ensures.before is)),
)

pub returns : goal.returns
returns c =
    ap grid_view
    (changed_is _ _ c.self.inside.ring c.self.inside.rows.items c.self.invariant.0 c.args.self.now
    c.args.y c.from.result c.index_mut-row.result.now c.cut.new.self
    (λ line. cut_at c.args.x c.args.c (stored_up_to c.args.x line)) c.self.view_is c.requires.row (c.from.ensures ∙ c.at-number.ensures)
    c.index_mut-row.ensures.value (ap (λ (r : RowSlot). r.line) c.cut.ensures
    ∙ ap (λ (r : RowSlot). cut_at c.args.x c.args.c r.line) c.reach.ensures))
    ∙ shown_cut_from c.args.self.now c.args.y c.args.x (c.args.self.now.cols - 1) c.args.c c.requires.row
    c.stays_fit.ensures.fit (omega arith) (omega arith)
