use Rattle.std.proofs.Common.{◌≡◌, ◌+◌, ◌-◌, ◌++◌, min, List, length, replicate, take, drop, ap, ◌∙◌, arith}
use Rattle.std.proofs.lemmas.List.{with_items_is}
use Rattle.vt_grid.proofs.Parts.{shelf_inserted, shelf_of}
use Rattle.vt_cells.specs.declared.cell.Cell.{Cell}
use Rattle.vt_grid.specs.Ring.{RowSlot}
use borrow.Rule.Slice.PartMut.{put_mid}
use Rattle.vt_grid.proofs.rows.row.Row.insert.Goals as goal

pub returns : goal.returns
returns c =
    let cells = c.self.inside.cells.items in
    let end = c.min-end.result in
    let new = c.move_right.new.cells in
    let end_is : end ≡ min (length cells) (c.self.inside.len + c.args.count) = omega arith in
    let new_is : new
    ≡ replicate c.args.count c.args.c
    ++ take (length (take (end - c.args.x) (drop c.args.x cells)) - c.args.count)
    (take (end - c.args.x) (drop c.args.x cells)) =
    c.move_right.ensures
    ∙ (λ i. replicate (c.from-4.ensures i) (c.new.ensures i)
    ++ take (length (take (end - c.from-3.ensures i)
    (drop (c.from-3.ensures i) (c.deref_mut.ensures.value i))) - c.from-4.ensures i)
    (take (end - c.from-3.ensures i) (drop (c.from-3.ensures i) (c.deref_mut.ensures.value i)))) in
    let room = ap (λ (s : RowSlot). s.room) c.self.view_is in
    let done =
    shelf_inserted c.args.x c.self.inside.len c.args.count end c.args.c c.self.inside.rest new cells
    c.args.self.now c.requires.place (omega (arith, room)) c.self.invariant.0 end_is new_is c.self.view_is in
    let now : put_mid c.from-3.result (end - c.from-3.result) c.deref_mut.result.now new
    ≡ put_mid c.args.x (end - c.args.x) cells new =
    (λ i. put_mid (c.from-3.ensures i) (end - c.from-3.ensures i) (c.deref_mut.ensures.value i) new) in
    ap (λ (items : List Cell). shelf_of items end c.self.inside.rest)
    (with_items_is c.self.inside.cells _ (ap length now ∙ done.0 ∙ omega arith) ∙ now)
    ∙ done.1
