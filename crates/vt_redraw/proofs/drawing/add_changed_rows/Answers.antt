use Rattle.std.proofs.Common.{ℕ, ◌+◌, List, ◌++◌, drop, get_or, [], sym, ap, ◌∙◌, append_assoc, arith}
use Rattle.vt_cells.specs.declared.cell.Cell.{Cell}
use Rattle.vt_redraw.proofs.Joins.{row_differs, row_stays, rows_more, test_is}
use Rattle.vt_redraw.specs.Cells.{changed_rows, row_text}
use Rattle.vt_redraw.proofs.drawing.add_changed_rows.Goals.{then-not-is_row_same+in_ok-add_row, else-not-is_row_same}
use Rattle.vt_redraw.proofs.drawing.add_changed_rows.Goals as goal

pub loop-y-preserved : goal.loop-y-preserved
loop-y-preserved c =
    let y : ℕ = c.loop-y.y in
    let olds : List (List Cell) = c.args.old.now.cells in
    let news : List (List Cell) = c.args.g.now.cells in
    let old : List Cell = get_or olds y [] in
    let row : List Cell = get_or news y [] in
    let now : List ℕ = c.loop-y.text.bytes in
    let more : List ℕ = changed_rows (y + 1) (drop (y + 1) olds) (drop (y + 1) news) in
    let step = rows_more y olds news (omega arith) (omega arith) in
    let test = test_is c.is_row_same.result old row c.is_row_same.ensures in
    elim c.if-not-is_row_same.branch [
      | then-not-is_row_same+in_ok-add_row w ↦
          (λ i. (w.text-is i).bytes ++ more)
          ∙ ap (λ (text : List ℕ). text ++ more) w.in_ok-add_row.ensures
          ∙ append_assoc now (row_text y row) more
          ∙ ap (λ (text : List ℕ). now ++ text)
          (sym (step ∙ row_differs c.is_row_same.result y old row more test w.if-not-is_row_same.true))
          ∙ c.loop-y.invariant
      | else-not-is_row_same w ↦
          (λ i. (w.text-is i).bytes ++ more)
          ∙ ap (λ (text : List ℕ). now ++ text)
          (sym (step ∙ row_stays c.is_row_same.result y old row more test w.if-not-is_row_same.false))
          ∙ c.loop-y.invariant
    ]
