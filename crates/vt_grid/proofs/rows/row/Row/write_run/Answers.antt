use Rattle.std.proofs.Common.{◌≡◌, ◌+◌, ◌-◌, ◌≤◌, List, length, ap, ◌∙◌, sym, arith}
use Rattle.std.proofs.lemmas.List.{length-map, with_items_is}
use Rattle.vt_grid.proofs.Parts.{length-overlaid, put_mid-overlaid, shelf_overlaid, shelf_of, rewritten}
use Rattle.vt_cells.specs.declared.cell.Cell.{Cell}
use borrow.Rule.Slice.PartMut.{put_mid}
use Rattle.vt_grid.proofs.rows.row.Row.write_run.Goals as goal

pub returns-else-stored-end : goal.returns-else-stored-end
returns-else-stored-end g c =
    let cells = c.self.inside.cells.items in
    let count = length c.args.codes.now in
    let len_new : length c.write_codes.new.cells ≡ count =
    ap length c.write_codes.ensures ∙ length-map {B = Cell} c.args.codes.now _ in
    let within : c.args.x + length c.write_codes.new.cells ≤ c.self.inside.len = omega arith in
    let now =
    (λ i. put_mid (c.from-from.ensures i) (c.from-from.ensures i + count - c.from-from.ensures i)
    (c.deref_mut.ensures.value i) c.write_codes.new.cells)
    ∙ put_mid-overlaid c.args.x count c.write_codes.new.cells cells (sym len_new) in
    let fits =
    ap length now
    ∙ length-overlaid c.args.x c.write_codes.new.cells cells (omega (arith, c.self.invariant.0)) in
    ap (λ (items : List Cell). shelf_of items c.self.inside.len c.self.inside.rest)
    (with_items_is c.self.inside.cells _ (fits ∙ omega arith) ∙ now)
    ∙ shelf_overlaid c.args.x c.self.inside.len c.self.inside.rest c.write_codes.new.cells cells
    c.args.self.now within c.self.invariant.0 c.self.view_is
    ∙ ap (λ (new : List Cell). rewritten c.args.x new c.args.self.now) c.write_codes.ensures
