use Rattle.std.proofs.Common.{◌≡◌, ap, ◌∙◌, arith, rules}
use Rattle.std.proofs.lemmas.List.{places}
use Rattle.vt_grid.proofs.Edited.{shown_insert}
use Rattle.vt_grid.proofs.Naming.{changed_is, read_is}
use Rattle.vt_grid.proofs.Narrow.{changed_narrow, inserted_narrow, stored_up_to_narrow}
use Rattle.vt_grid.specs.Store.{Store, grid_view}
use Rattle.vt_grid.specs.StoredRow.{with_stored_inserted, stored_up_to}
use Rattle.vt_grid.specs.Ring.{RowSlot}
use Rattle.vt_grid.proofs.rows.store.RowStore.insert.Goals as goal

-- the row after the edit
line-is : (c : goal.After-self-2-1) → c.insert.new.self.line
    ≡ with_stored_inserted c.args.self.now.cols c.args.x c.min-count.result c.args.c
    (stored_up_to c.args.x c.index_mut-row.result.now.line)
line-is c =
    let in_rows = ap (λ (s : Store). s.rows) c.self.view_is in
    let read =
    read_is _ _ c.self.inside.ring c.self.inside.rows.items c.self.invariant.0 c.args.y c.from-2.result
    c.index_mut-row.result.now (omega arith) (c.from-2.ensures ∙ c.at-number.ensures)
    c.index_mut-row.ensures.value in
    let room : c.reach.new.self.room ≡ c.args.self.now.cols =
    ap (λ (r : RowSlot). r.room) c.reach.ensures
    ∙ read.0
    ∙ ap (λ (s : Store). s.cols) c.self.view_is in
    ap (λ (r : RowSlot). r.line) c.insert.ensures
    ∙ (λ i. with_stored_inserted (room i) c.args.x c.min-count.result c.args.c
    (ap (λ (r : RowSlot). r.line) c.reach.ensures i))

pub invariant_of-self : goal.invariant_of-self
invariant_of-self c = (
  search (arith, rules, places),
  λ is.
      changed_narrow c.self.inside.rows.items c.from-2.result c.index_mut-row.result.now c.insert.new.self
      (λ line. with_stored_inserted c.args.self.now.cols c.args.x c.min-count.result c.args.c (stored_up_to c.args.x line)) c.index_mut-row.ensures.value
      (line-is c)
      (λ line h. inserted_narrow c.args.self.now.cols c.args.x c.min-count.result c.args.c
      (stored_up_to c.args.x line) (c.stays_narrow-self-inside.ensures.one is) (stored_up_to_narrow c.args.x line h)) (c.self.invariant.1 (c.stays_narrow-self-inside.ensures.before is)),
)

pub returns : goal.returns
returns c =
    let cols = ap (λ (s : Store). s.cols) c.self.view_is in
    ap grid_view
    (changed_is _ _ c.self.inside.ring c.self.inside.rows.items c.self.invariant.0 c.args.self.now
    c.args.y c.from-2.result c.index_mut-row.result.now c.insert.new.self
    (λ line. with_stored_inserted c.args.self.now.cols c.args.x c.min-count.result c.args.c (stored_up_to c.args.x line)) c.self.view_is c.requires.row (c.from-2.ensures ∙ c.at-number.ensures)
    c.index_mut-row.ensures.value (line-is c))
    ∙ shown_insert c.args.self.now c.args.y c.args.x c.args.n c.min-count.result c.args.c
    c.requires.row c.stays_fit.ensures.fit c.requires.column (omega (arith, cols))
