use Rattle.std.proofs.Common.{◌≡◌, ◌++◌, List, length, take, drop, ap, ◌∙◌, arith}
use Rattle.std.proofs.lemmas.List.{with_items_is}
use Rattle.vt_grid.proofs.Parts.{shelf_of}
use Rattle.vt_grid.proofs.Lays.{shelf_copied}
use Rattle.vt_grid.specs.Ring.{RowSlot}
use Rattle.vt_cells.specs.declared.cell.Cell.{Cell}
use Rattle.vt_grid.proofs.rows.row.Row.copy.Goals as goal

pub returns : goal.returns
returns c =
    let cells = c.self.inside.cells.items in
    let over = c.from.inside.cells.items in
    let new = c.copy_prefix.new.cells in
    let stored = c.min-stored.result in
    let room : length cells ≡ c.args.self.now.room = ap (λ (s : RowSlot). s.room) c.self.view_is in
    let front : c.first.result.now ≡ take stored over =
    c.first.ensures ∙ ap (λ (from : List Cell). take stored from) c.deref.ensures.value in
    let new_is : new ≡ take stored over ++ drop (length (take stored over)) cells =
    c.copy_prefix.ensures ∙ (λ i. front i ++ drop (length (front i)) (c.deref_mut.ensures.value i)) in
    let done =
    shelf_copied c.args.count c.from.inside.len stored c.from.inside.rest cells over new c.args.self.now
    c.args.from.now (omega arith) c.from.invariant.0 (omega (arith, room, c.requires)) new_is room c.from.view_is in
    ap (λ (items : List Cell). shelf_of items stored c.from.inside.rest)
    (with_items_is c.self.inside.cells _ (done.0 ∙ omega arith))
    ∙ done.1
