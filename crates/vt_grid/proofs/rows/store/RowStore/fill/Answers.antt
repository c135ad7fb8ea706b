use Rattle.std.proofs.Common.{replicate, ap, ◌∙◌, arith, rules}
use Rattle.std.proofs.lemmas.List.{places}
use Rattle.vt_grid.proofs.Edited.{shown_fill}
use Rattle.vt_grid.proofs.Naming.{changed_is}
use Rattle.vt_grid.proofs.Narrow.{changed_narrow, stored_up_to_narrow, repeated, with_stored_cells_narrow}
use Rattle.vt_grid.specs.Store.{grid_view}
use Rattle.vt_grid.specs.StoredRow.{stored_up_to, with_stored_cells}
use Rattle.vt_grid.specs.Ring.{RowSlot}
use Rattle.vt_grid.proofs.rows.store.RowStore.fill.Goals as goal

pub invariant_of-self : goal.invariant_of-self
invariant_of-self c = (
  search (arith, rules, places),
  λ is.
      changed_narrow c.self.inside.rows.items c.from.result c.index_mut-row.result.now c.fill.new.self
      (λ line. with_stored_cells c.args.x (replicate c.args.count c.args.c) (stored_up_to c.args.x line)) c.index_mut-row.ensures.value
      (ap (λ (r : RowSlot). r.line) c.fill.ensures
      ∙ ap (λ (r : RowSlot). with_stored_cells c.args.x (replicate c.args.count c.args.c) r.line) c.reach.ensures)
      (λ line h. with_stored_cells_narrow c.args.x (replicate c.args.count c.args.c) (stored_up_to c.args.x line)
      (repeated c.args.count c.args.c (c.stays_narrow-self-inside.ensures.one is)) (stored_up_to_narrow c.args.x line h)) (c.self.invariant.1 (c.stays_narrow-self-inside.ensures.before is)),
)

pub returns : goal.returns
returns c =
    ap grid_view
    (changed_is _ _ c.self.inside.ring c.self.inside.rows.items c.self.invariant.0 c.args.self.now
    c.args.y c.from.result c.index_mut-row.result.now c.fill.new.self
    (λ line. with_stored_cells c.args.x (replicate c.args.count c.args.c) (stored_up_to c.args.x line)) c.self.view_is c.requires.row (c.from.ensures ∙ c.at-number.ensures)
    c.index_mut-row.ensures.value (ap (λ (r : RowSlot). r.line) c.fill.ensures
    ∙ ap (λ (r : RowSlot). with_stored_cells c.args.x (replicate c.args.count c.args.c) r.line) c.reach.ensures))
    ∙ shown_fill c.args.self.now c.args.y c.args.x c.args.count c.args.c c.requires.row
    c.stays_fit.ensures.fit c.requires.columns
