use Rattle.std.proofs.Common.{◌≡◌, ◌-◌, ◌++◌, List, length, replicate, take, drop, ap, ◌∙◌, arith}
use Rattle.std.proofs.lemmas.List.{with_items_is}
use Rattle.vt_grid.proofs.Parts.{shelf_of}
use Rattle.vt_grid.proofs.Lays.{shelf_with_prefix_of}
use Rattle.vt_grid.specs.Ring.{RowSlot}
use Rattle.vt_cells.specs.declared.cell.Cell.{Cell}
use Rattle.vt_grid.proofs.rows.row.Row.cover.Goals as goal

pub returns-then-stored-count : goal.returns-then-stored-count
returns-then-stored-count c =
    let cells = c.self.inside.cells.items in
    let over = c.from.inside.cells.items in
    let new = c.cover_prefix.new.cells in
    let count = c.args.count in
    let front = c.min-front.result in
    let rest = c.from.inside.rest in
    let room : length cells ≡ c.args.self.now.room = ap (λ (s : RowSlot). s.room) c.self.view_is in
    let first : c.first.result.now ≡ take front over =
    c.first.ensures ∙ ap (λ (from : List Cell). take front from) c.deref.ensures.value in
    let new_is : new
    ≡ (take front over ++ replicate (count - length (take front over)) rest) ++ drop count cells =
    c.cover_prefix.ensures
    ∙ (λ i. (first i ++ replicate (count - length (first i)) rest) ++ drop count (c.deref_mut.ensures.value i)) in
    let done =
    shelf_with_prefix_of count c.self.inside.len c.from.inside.len front c.args.count c.self.inside.rest rest cells over
    new c.args.self.now c.args.from.now (omega arith) (omega arith) c.from.invariant.0 c.self.invariant.0
    (omega (arith, room, c.requires)) new_is c.self.view_is c.from.view_is in
    ap (λ (items : List Cell). shelf_of items c.args.count c.self.inside.rest)
    (with_items_is c.self.inside.cells _ (done.0 ∙ omega arith))
    ∙ done.1

pub returns-else-stored-count : goal.returns-else-stored-count
returns-else-stored-count c =
    let cells = c.self.inside.cells.items in
    let over = c.from.inside.cells.items in
    let new = c.cover_prefix.new.cells in
    let count = c.args.count in
    let front = c.min-front.result in
    let rest = c.from.inside.rest in
    let room : length cells ≡ c.args.self.now.room = ap (λ (s : RowSlot). s.room) c.self.view_is in
    let first : c.first.result.now ≡ take front over =
    c.first.ensures ∙ ap (λ (from : List Cell). take front from) c.deref.ensures.value in
    let new_is : new
    ≡ (take front over ++ replicate (count - length (take front over)) rest) ++ drop count cells =
    c.cover_prefix.ensures
    ∙ (λ i. (first i ++ replicate (count - length (first i)) rest) ++ drop count (c.deref_mut.ensures.value i)) in
    let done =
    shelf_with_prefix_of count c.self.inside.len c.from.inside.len front c.self.inside.len c.self.inside.rest rest cells over
    new c.args.self.now c.args.from.now (omega arith) (omega arith) c.from.invariant.0 c.self.invariant.0
    (omega (arith, room, c.requires)) new_is c.self.view_is c.from.view_is in
    ap (λ (items : List Cell). shelf_of items c.self.inside.len c.self.inside.rest)
    (with_items_is c.self.inside.cells _ (done.0 ∙ omega arith))
    ∙ done.1
