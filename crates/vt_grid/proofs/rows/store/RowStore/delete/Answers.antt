use Rattle.std.proofs.Common.{◌-◌, min, ap, ◌∙◌, arith, rules}
use Rattle.std.proofs.lemmas.List.{places}
use Rattle.vt_grid.proofs.Edited.{shown_remove}
use Rattle.vt_grid.proofs.Naming.{changed_is}
use Rattle.vt_grid.proofs.Narrow.{changed_narrow, stored_up_to_narrow, removed_narrow}
use Rattle.vt_grid.specs.Store.{Store, grid_view}
use Rattle.vt_grid.specs.StoredRow.{stored_up_to, with_stored_deleted}
use Rattle.vt_grid.specs.Ring.{RowSlot}
use Rattle.vt_grid.proofs.rows.store.RowStore.delete.Goals as goal

pub invariant_of-self : goal.invariant_of-self
invariant_of-self c = (
  search (arith, rules, places),
  λ is.
      changed_narrow c.self.inside.rows.items c.from-2.result c.index_mut-row.result.now c.remove.new.self
      (λ line. with_stored_deleted c.args.x c.min-count.result c.args.c (stored_up_to c.args.self.now.cols line)) c.index_mut-row.ensures.value
      (ap (λ (r : RowSlot). r.line) c.remove.ensures
      ∙ ap (λ (r : RowSlot). with_stored_deleted c.args.x c.min-count.result c.args.c r.line) c.reach.ensures
      ∙ ap (λ (s : Store). with_stored_deleted c.args.x c.min-count.result c.args.c
      (stored_up_to s.cols c.index_mut-row.result.now.line)) c.self.view_is)
      (λ line h. removed_narrow c.args.x c.min-count.result c.args.c (stored_up_to c.args.self.now.cols line)
      (c.stays_narrow-self-inside.ensures.one is) (stored_up_to_narrow c.args.self.now.cols line h)) (c.self.invariant.1 (c.stays_narrow-self-inside.ensures.before is)),
)

pub returns : goal.returns
returns c =
    let cols = ap (λ (s : Store). s.cols) c.self.view_is in
    ap grid_view
    (changed_is _ _ c.self.inside.ring c.self.inside.rows.items c.self.invariant.0 c.args.self.now
    c.args.y c.from-2.result c.index_mut-row.result.now c.remove.new.self
    (λ line. with_stored_deleted c.args.x c.min-count.result c.args.c (stored_up_to c.args.self.now.cols line)) c.self.view_is c.requires.row (c.from-2.ensures ∙ c.at-number.ensures)
    c.index_mut-row.ensures.value (ap (λ (r : RowSlot). r.line) c.remove.ensures
    ∙ ap (λ (r : RowSlot). with_stored_deleted c.args.x c.min-count.result c.args.c r.line) c.reach.ensures
    ∙ ap (λ (s : Store). with_stored_deleted c.args.x c.min-count.result c.args.c
    (stored_up_to s.cols c.index_mut-row.result.now.line)) c.self.view_is))
    ∙ shown_remove c.args.self.now c.args.y c.args.x c.args.n c.min-count.result c.args.c
    c.requires.row c.stays_fit.ensures.fit c.requires.column (omega (arith, cols))
