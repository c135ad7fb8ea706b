use Rattle.std.proofs.Common.{ap, ◌∙◌, arith, rules}
use Rattle.std.proofs.lemmas.List.{places}
use Rattle.std.proofs.lemmas.Bool.{and_parts}
use Rattle.vt_grid.proofs.Covered.{shown_cover_row}
use Rattle.vt_grid.proofs.Naming.{changed_is}
use Rattle.vt_grid.proofs.Narrow.{changed_narrow, with_prefix_of_narrow}
use Rattle.vt_grid.specs.Store.{stored_row, no_row, grid_view}
use Rattle.vt_grid.specs.StoredRow.{IsNarrowLine, StoredRow, with_prefix_of}
use Rattle.vt_grid.specs.Ring.{RowSlot}
use Rattle.vt_grid.proofs.rows.store.RowStore.cover_row.Goals as goal

pub invariant_of-self : goal.invariant_of-self
invariant_of-self c = (
  search (arith, rules, places),
  λ is.
      let flags = and_parts c.self.inside.narrow c.is_narrow.result is in
      let over : IsNarrowLine (stored_row c.args.old.now c.args.from) =
      c.is_narrow.ensures.lines flags.1 c.args.from no_row (omega (arith, c.stays_fit-2.ensures.fit.tall)) in
      changed_narrow c.self.inside.rows.items c.from.result c.index_mut-row.result.now c.cover.new.self
      (with_prefix_of c.args.count (stored_row c.args.old.now c.args.from)) c.index_mut-row.ensures.value
      (ap (λ (r : RowSlot). r.line) c.cover.ensures
      ∙ ap (λ (l : StoredRow). with_prefix_of c.args.count l c.index_mut-row.result.now.line) c.row.ensures.line)
      (λ line h. with_prefix_of_narrow c.args.count (stored_row c.args.old.now c.args.from) line over h) (c.self.invariant.1 flags.0),
)

pub returns : goal.returns
returns c =
    ap grid_view
    (changed_is _ _ c.self.inside.ring c.self.inside.rows.items c.self.invariant.0 c.args.self.now
    c.args.y c.from.result c.index_mut-row.result.now c.cover.new.self
    (with_prefix_of c.args.count (stored_row c.args.old.now c.args.from)) c.self.view_is c.requires.run.row (c.from.ensures ∙ c.at-number.ensures)
    c.index_mut-row.ensures.value (ap (λ (r : RowSlot). r.line) c.cover.ensures
    ∙ ap (λ (l : StoredRow). with_prefix_of c.args.count l c.index_mut-row.result.now.line) c.row.ensures.line))
    ∙ shown_cover_row c.args.self.now c.args.old.now c.args.y c.args.from c.args.count c.requires.run.row
    c.requires.old_run.row c.stays_fit.ensures.fit c.stays_fit-2.ensures.fit (omega (arith, c.requires.run.columns)) (omega (arith, c.requires.old_run.columns))
