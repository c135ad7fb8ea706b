use Rattle.std.proofs.Common.{◌≡◌, ℕ, List, length, map, false, subst, sym, ap, ◌∙◌, arith}
use Rattle.std.proofs.lemmas.Bool.Decides.{nat_tests}
use Rattle.std.proofs.lemmas.List.{length-map, with_items_is}
use Rattle.vt_cells.specs.Width.{is_half}
use Rattle.vt_grid.proofs.Clears.{IsNaming_blank, rows_by_number_blank}
use Rattle.vt_grid.proofs.Narrow.{blank_narrow}
use Rattle.vt_grid.proofs.Shown.{shown_blank_store}
use Rattle.vt_grid.specs.Grid.{filled_grid}
use Rattle.vt_grid.specs.StoredRow.{StoredRow}
use Rattle.vt_grid.specs.Ring.{AreNarrow, IsNaming, RowSlot, blank_slot, rows_by_number}
use Rattle.vt_grid.specs.Store.{Store, grid_view}
use Rattle.vt_grid.proofs.rows.store.RowStore.fill_all.Goals as goal

pub invariant_of-self : goal.invariant_of-self
invariant_of-self c =
    let kept : List RowSlot = c.self.inside.rows.items in
    let new : c.cut_each.new.rows ≡ map (blank_slot c.args.c) kept =
    c.cut_each.ensures ∙ ap (map (blank_slot c.args.c)) c.deref_mut.ensures.value in
    let now =
    with_items_is c.self.inside.rows c.cut_each.new.rows
    (ap length new ∙ length-map kept (blank_slot c.args.c) ∙ omega arith)
    ∙ new in (
      subst (IsNaming c.self.inside.size.rows c.self.inside.size.cols c.self.inside.ring) (sym now)
          (IsNaming_blank _ _ c.self.inside.ring kept c.self.invariant.0 c.args.c),
      (λ is.
          let one : is_half c.args.c ≡ false = grind (arith, nat_tests) in
          subst AreNarrow (sym now) (blank_narrow c.args.c kept one)),
    )

pub returns : goal.returns
returns c =
    let rows : ℕ = c.self.inside.size.rows in
    let cols : ℕ = c.self.inside.size.cols in
    let order : List ℕ = c.self.inside.ring in
    let kept : List RowSlot = c.self.inside.rows.items in
    let new : c.cut_each.new.rows ≡ map (blank_slot c.args.c) kept =
    c.cut_each.ensures ∙ ap (map (blank_slot c.args.c)) c.deref_mut.ensures.value in
    let now =
    with_items_is c.self.inside.rows c.cut_each.new.rows
    (ap length new ∙ length-map kept (blank_slot c.args.c) ∙ omega arith)
    ∙ new in
    ap (λ (lines : List StoredRow). grid_view (record { rows = rows; cols = cols; lines = lines }))
    (ap (λ (slots : List RowSlot). rows_by_number slots order) now
    ∙ rows_by_number_blank rows cols order kept c.self.invariant.0 c.args.c)
    ∙ shown_blank_store rows cols c.args.c
    ∙ ap (λ (s : Store). filled_grid s.rows s.cols c.args.c) c.self.view_is
