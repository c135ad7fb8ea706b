use Rattle.std.proofs.Common.{◌≡◌, List, map, length, ap, ◌∙◌, arith}
use Rattle.std.proofs.lemmas.Grind.{common_steps}
use Rattle.std.proofs.lemmas.Bool.{and_parts}
use Rattle.std.proofs.lemmas.List.{length-map}
use Rattle.vt_cells.specs.declared.cell.Cell.{Cell}
use Rattle.vt_grid.proofs.Edited.{shown_put_run}
use Rattle.vt_grid.proofs.Naming.{changed_is}
use Rattle.vt_grid.proofs.Narrow.{changed_narrow, cells_narrow, stored_up_to_narrow, with_stored_cells_narrow}
use Rattle.vt_grid.specs.Store.{grid_view}
use Rattle.vt_grid.specs.StoredRow.{stored_up_to, with_stored_cells}
use Rattle.vt_grid.specs.Ring.{RowSlot}
use Rattle.vt_grid.proofs.rows.store.RowStore.put_run.Goals as goal
use Rattle.vt_grid.proofs.rows.store.RowStore.put_run.Given.{Over}

-- the cells that are put
cells : (g : Over) → goal.After-self-2-1 g → List Cell
cells g c = map (λ t. record { code = g.T.Code.code_of t; attr = c.args.attr }) c.args.codes.now

pub invariant_of-self : goal.invariant_of-self
unfolding cells
invariant_of-self g c = (
  grind (arith, common_steps),
  λ is.
      let flags = and_parts c.self.inside.narrow c.args.narrow is in
      changed_narrow c.self.inside.rows.items c.from.result c.index_mut-row.result.now c.write_run.new.self
      (λ line. with_stored_cells c.args.x (cells g c) (stored_up_to c.args.x line)) c.index_mut-row.ensures.value
      (ap (λ (r : RowSlot). r.line) c.write_run.ensures
      ∙ ap (λ (r : RowSlot). with_stored_cells c.args.x (cells g c) r.line) c.reach.ensures)
      (λ line h. with_stored_cells_narrow c.args.x (cells g c) (stored_up_to c.args.x line)
      (cells_narrow g.T.Code.code_of c.args.codes.now c.args.attr (c.requires.narrow flags.1))
      (stored_up_to_narrow c.args.x line h)) (c.self.invariant.1 flags.0),
)

pub returns : goal.returns
unfolding cells
returns g c =
    let len : length (cells g c) ≡ length c.args.codes.now = length-map c.args.codes.now _ in
    ap grid_view
    (changed_is _ _ c.self.inside.ring c.self.inside.rows.items c.self.invariant.0 c.args.self.now
    c.args.y c.from.result c.index_mut-row.result.now c.write_run.new.self
    (λ line. with_stored_cells c.args.x (cells g c) (stored_up_to c.args.x line)) c.self.view_is c.requires.run.row (c.from.ensures ∙ c.at-number.ensures)
    c.index_mut-row.ensures.value (ap (λ (r : RowSlot). r.line) c.write_run.ensures
    ∙ ap (λ (r : RowSlot). with_stored_cells c.args.x (cells g c) r.line) c.reach.ensures))
    ∙ shown_put_run c.args.self.now c.args.y c.args.x (cells g c) c.requires.run.row
    c.stays_fit.ensures.fit (omega arith)
