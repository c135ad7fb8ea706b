use Rattle.std.proofs.Common.{◌≡◌, ◌+◌, ◌-◌, ◌≤◌, List, length, replicate, ap, ◌∙◌, sym, arith}
use Rattle.std.proofs.lemmas.List.{length-replicate, with_items_is}
use Rattle.vt_grid.proofs.Parts.{length-overlaid, put_mid-overlaid, rewritten, shelf_overlaid, shelf_of}
use Rattle.vt_cells.specs.declared.cell.Cell.{Cell}
use borrow.Rule.Slice.PartMut.{put_mid}
use Rattle.vt_grid.proofs.rows.row.Row.fill.Goals as goal

pub returns-else-stored-end : goal.returns-else-stored-end
returns-else-stored-end c =
    let cells = c.self.inside.cells.items in
    let new = c.fill_all.new.cells in
    let count = c.from.result in
    let len_new : length new ≡ c.args.count =
    ap length c.fill_all.ensures ∙ length-replicate c.args.count c.new.result in
    let within : c.args.x + length new ≤ c.self.inside.len = omega arith in
    let now =
    (λ i. put_mid (c.from-from.ensures i) (c.from-from.ensures i + count - c.from-from.ensures i)
    (c.deref_mut.ensures.value i) new)
    ∙ put_mid-overlaid c.args.x count new cells (c.from.ensures ∙ sym len_new) in
    let fits =
    ap length now
    ∙ length-overlaid c.args.x new cells (omega (arith, c.self.invariant.0)) in
    ap (λ (items : List Cell). shelf_of items c.self.inside.len c.self.inside.rest)
    (with_items_is c.self.inside.cells _ (fits ∙ omega arith) ∙ now)
    ∙ shelf_overlaid c.args.x c.self.inside.len c.self.inside.rest new cells c.args.self.now within
    c.self.invariant.0 c.self.view_is
    ∙ (λ i. rewritten c.args.x
    ((c.fill_all.ensures ∙ ap (replicate c.args.count) c.new.ensures) i) c.args.self.now)
