use Rattle.std.proofs.Common.{ap, ◌∙◌, arith, rules}
use Rattle.std.proofs.lemmas.List.{places}
use Rattle.std.proofs.lemmas.Bool.{and_parts}
use Rattle.vt_grid.proofs.Covered.{shown_copy_row}
use Rattle.vt_grid.proofs.Naming.{changed_is}
use Rattle.vt_grid.proofs.Narrow.{changed_narrow, cut_narrow}
use Rattle.vt_grid.specs.Store.{Store, stored_row, no_row, grid_view}
use Rattle.vt_grid.specs.StoredRow.{IsNarrowLine, StoredRow, cut_at}
use Rattle.vt_grid.specs.Ring.{RowSlot}
use Rattle.vt_grid.proofs.rows.store.RowStore.copy_whole.Goals as goal

pub invariant_of-self : goal.invariant_of-self
invariant_of-self c = (
  search (arith, rules, places),
  λ is.
      let flags = and_parts c.self.inside.narrow c.is_narrow.result is in
      let over : IsNarrowLine (stored_row c.args.old.now c.args.from) =
      c.is_narrow.ensures.lines flags.1 c.args.from no_row (omega (arith, c.stays_fit-2.ensures.fit.tall)) in
      changed_narrow c.self.inside.rows.items c.from.result c.index_mut-row.result.now c.copy.new.self
      (λ line. cut_at c.args.self.now.cols (stored_row c.args.old.now c.args.from).rest
      (stored_row c.args.old.now c.args.from)) c.index_mut-row.ensures.value
      (ap (λ (r : RowSlot). r.line) c.copy.ensures
      ∙ ap (λ (l : StoredRow). cut_at c.self.inside.size.cols l.rest l) c.row.ensures.line
      ∙ ap (λ (s : Store). cut_at s.cols (stored_row c.args.old.now c.args.from).rest
      (stored_row c.args.old.now c.args.from)) c.self.view_is)
      (λ line h. cut_narrow c.args.self.now.cols (stored_row c.args.old.now c.args.from).rest
      (stored_row c.args.old.now c.args.from) over.1 over) (c.self.invariant.1 flags.0),
)

pub returns : goal.returns
returns c =
    ap grid_view
    (changed_is _ _ c.self.inside.ring c.self.inside.rows.items c.self.invariant.0 c.args.self.now
    c.args.y c.from.result c.index_mut-row.result.now c.copy.new.self
    (λ line. cut_at c.args.self.now.cols (stored_row c.args.old.now c.args.from).rest
    (stored_row c.args.old.now c.args.from)) c.self.view_is c.requires.row (c.from.ensures ∙ c.at-number.ensures)
    c.index_mut-row.ensures.value (ap (λ (r : RowSlot). r.line) c.copy.ensures
    ∙ ap (λ (l : StoredRow). cut_at c.self.inside.size.cols l.rest l) c.row.ensures.line
    ∙ ap (λ (s : Store). cut_at s.cols (stored_row c.args.old.now c.args.from).rest
    (stored_row c.args.old.now c.args.from)) c.self.view_is))
    ∙ shown_copy_row c.args.self.now c.args.old.now c.args.y c.args.from c.requires.row c.requires.old_run.row
    c.stays_fit.ensures.fit c.stays_fit-2.ensures.fit (omega (arith, c.requires.old_run.columns))
