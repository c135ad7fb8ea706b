use Rattle.std.proofs.Common.{ℕ, map, ap, subst, ◌∙◌, sym}
use Rattle.std.specs.List.Sorted.{IsPermutation}
use Rattle.vt_grid.proofs.Naming.{IsNaming_moved}
use Rattle.vt_grid.proofs.Turns.{IsPermutation-rotation_by, map-rotation_by}
use Rattle.vt_grid.specs.StoredRow.{StoredRow}
use Rattle.vt_grid.specs.Ring.{slot_at}
use Rattle.vt_grid.specs.Store.{Store, rotation_by}
use Rattle.vt_grid.proofs.rows.store.RowStore.turn.Goals as goal

pub invariant_of-self : goal.invariant_of-self
invariant_of-self g c = (
  IsNaming_moved _ _ c.self.inside.ring c.self.inside.rows.items c.self.invariant.0 c.turn.new.self
      (subst (IsPermutation c.self.inside.ring) (sym c.turn.ensures)
      (IsPermutation-rotation_by c.args.n c.self.inside.ring)),
  c.self.invariant.1,
)

pub returns-clause-rows : goal.returns-clause-rows
returns-clause-rows g c =
    let line : ℕ → StoredRow = λ p. (slot_at c.self.inside.rows.items p).line in
    (λ i. record {
      rows = c.self.inside.size.rows;
      cols = c.self.inside.size.cols;
      lines = (ap (map line) c.turn.ensures ∙ map-rotation_by line c.args.n c.self.inside.ring) i;
    })
    ∙ ap (λ (s : Store). record s { lines = rotation_by c.args.n s.lines }) c.self.view_is
