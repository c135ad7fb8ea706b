use Rattle.std.proofs.Common.{◌≡◌, ℕ, ◌+◌, ◌≤◌, List, length, take, drop, sym, ap, ◌∙◌, subst, arith}
use Rattle.std.proofs.lemmas.List.{with_items_is}
use Rattle.vt_grid.proofs.Clears.{cleared_one, clears, length-cut_all}
use Rattle.vt_grid.proofs.Narrow.{cut_all_narrow}
use Rattle.vt_grid.specs.StoredRow.{StoredRow, blank_row}
use Rattle.vt_grid.specs.Ring.{AreNarrow, IsNaming, RowSlot, cut_all, rows_by_number}
use Rattle.vt_grid.specs.Store.{Store, with_run_of}
use Rattle.vt_grid.proofs.rows.store.RowStore.clear.Goals as goal

pub returns-then-count-eq1-clause-rows : goal.returns-then-count-eq1-clause-rows
returns-then-count-eq1-clause-rows g c =
    let lines : List StoredRow = c.args.self.now.lines in
    let one : 1 ≡ c.args.count = omega arith in
    c.cut.ensures.rows
    ∙ ap (λ (all : List StoredRow). record c.args.self.now { lines = all })
    (cleared_one c.args.from (blank_row c.args.c) lines (omega (arith, c.stays_fit.ensures.fit.tall))
    ∙ ap (λ (n : ℕ). with_run_of c.args.from n (blank_row c.args.c) lines) one)

pub invariant_of-self : goal.invariant_of-self
invariant_of-self g c =
    let rows : ℕ = c.self.inside.size.rows in
    let cols : ℕ = c.self.inside.size.cols in
    let order : List ℕ = c.self.inside.ring in
    let kept : List RowSlot = c.self.inside.rows.items in
    let part : List ℕ = take c.args.count (drop c.args.from order) in
    let new : c.clear_rows.new.rows ≡ cut_all part c.args.c kept =
    c.clear_rows.ensures ∙ ap (λ (shelves : List RowSlot). cut_all part c.args.c shelves) c.deref_mut.ensures.value in
    let len : length c.clear_rows.new.rows ≡ length kept =
    ap length new ∙ length-cut_all part c.args.c kept in
    let within : c.args.from + c.args.count ≤ rows =
    omega (arith, c.requires, ap (λ (s : Store). s.rows) c.self.view_is) in
    let now = sym (with_items_is c.self.inside.rows c.clear_rows.new.rows (len ∙ omega arith) ∙ new) in (
      subst (λ (shelves : List RowSlot). IsNaming rows cols order shelves) now
          (clears rows cols order kept c.self.invariant.0 c.args.c c.args.from c.args.count within).0,
      (λ is.
          subst AreNarrow now
          (cut_all_narrow part c.args.c kept (c.stays_narrow-self-inside.ensures.one is)
          (c.self.invariant.1 (c.stays_narrow-self-inside.ensures.before is)))),
    )

pub returns-clause-rows : goal.returns-clause-rows
returns-clause-rows g c =
    let rows : ℕ = c.self.inside.size.rows in
    let cols : ℕ = c.self.inside.size.cols in
    let order : List ℕ = c.self.inside.ring in
    let kept : List RowSlot = c.self.inside.rows.items in
    let part : List ℕ = take c.args.count (drop c.args.from order) in
    let new : c.clear_rows.new.rows ≡ cut_all part c.args.c kept =
    c.clear_rows.ensures ∙ ap (λ (shelves : List RowSlot). cut_all part c.args.c shelves) c.deref_mut.ensures.value in
    let len : length c.clear_rows.new.rows ≡ length kept =
    ap length new ∙ length-cut_all part c.args.c kept in
    let within : c.args.from + c.args.count ≤ rows =
    omega (arith, c.requires, ap (λ (s : Store). s.rows) c.self.view_is) in
    (λ i. record {
      rows = rows;
      cols = cols;
      lines = (ap (λ (shelves : List RowSlot). rows_by_number shelves order)
          (with_items_is c.self.inside.rows c.clear_rows.new.rows (len ∙ omega arith) ∙ new)
          ∙ (clears rows cols order kept c.self.invariant.0 c.args.c c.args.from c.args.count within).1) i;
    })
    ∙ ap (λ (s : Store). record s { lines = with_run_of c.args.from c.args.count (blank_row c.args.c) s.lines }) c.self.view_is
