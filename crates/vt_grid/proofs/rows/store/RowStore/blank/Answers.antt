use Rattle.std.proofs.Common.{◌≡◌, List, replicate, false, refl, subst, sym, ap, ◌∙◌, arith}
use Rattle.std.proofs.lemmas.Bool.Decides.{nat_tests}
use Rattle.std.proofs.lemmas.List.Elements.{All-nil, All-replicate}
use Rattle.vt_cells.specs.Width.{is_half}
use Rattle.vt_grid.proofs.Naming.{IsNaming_new, rows_by_number_new}
use Rattle.vt_grid.specs.StoredRow.{IsNarrowLine, StoredRow, blank_row}
use Rattle.vt_grid.specs.Ring.{AreNarrow, IsNaming, RowSlot, rows_by_number}
use Rattle.vt_grid.proofs.rows.store.RowStore.blank.Goals as goal

-- a row of the new store
shelf : goal.After-loop-y → RowSlot
shelf c = record { room = c.args.size.cols; line = blank_row c.args.c }

rows-is : (c : goal.After-loop-y) → c.loop-y.rows.items ≡ replicate c.args.size.rows (shelf c)
unfolding shelf
rows-is c =
    c.loop-y.invariant ∙ ap (λ n. replicate n (shelf c)) (omega arith)

pub invariant_of-result : goal.invariant_of-result
unfolding shelf
invariant_of-result c = (
  subst (IsNaming c.args.size.rows c.args.size.cols c.in_ok-ring.ring) (sym (rows-is c))
      (IsNaming_new c.args.size.rows c.args.size.cols c.in_ok-ring.ring (shelf c) c.in_ok-ring.ensures
      refl (omega arith)),
  λ is.
      let one : is_half c.args.c ≡ false = grind (arith, nat_tests) in
      subst AreNarrow (sym (rows-is c))
      (All-replicate (λ slot. IsNarrowLine slot.line) c.args.size.rows (shelf c)
      (All-nil (λ cell. is_half cell ≡ false), one)),
)

pub returns : goal.returns
unfolding shelf
returns c =
    ap (λ (lines : List StoredRow). record { rows = c.args.size.rows; cols = c.args.size.cols; lines = lines })
    (ap (λ (rows : List RowSlot). rows_by_number rows c.in_ok-ring.ring) (rows-is c)
    ∙ rows_by_number_new c.args.size.rows c.in_ok-ring.ring (shelf c) c.in_ok-ring.ensures)
