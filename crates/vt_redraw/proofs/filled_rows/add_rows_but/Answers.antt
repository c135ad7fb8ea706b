use Rattle.std.proofs.Common.{ℕ, ◌≡◌, ◌+◌, List, ◌++◌, drop, get_or, replicate, [], sym, ap, ◌∙◌, append_assoc, arith}
use Rattle.std.proofs.lemmas.List.{get_or-replicate, length-replicate}
use Rattle.vt_cells.specs.declared.cell.Cell.{Cell}
use Rattle.vt_redraw.proofs.Joins.{row_differs, row_stays, rows_more}
use Rattle.vt_redraw.specs.Cells.{are_same, changed_rows, row_text}
use Rattle.vt_redraw.proofs.filled_rows.add_rows_but.Goals.{then-not-is_row_filled+in_ok-add_row, else-not-is_row_filled}
use Rattle.vt_redraw.proofs.filled_rows.add_rows_but.Goals as goal

pub loop-y-preserved : goal.loop-y-preserved
loop-y-preserved c =
    let y : ℕ = c.loop-y.y in
    let filled : List Cell = replicate c.args.g.now.cols c.args.c in
    let olds : List (List Cell) = replicate c.args.g.now.rows filled in
    let news : List (List Cell) = c.args.g.now.cells in
    let old : List Cell = get_or olds y [] in
    let row : List Cell = get_or news y [] in
    let now : List ℕ = c.loop-y.text.bytes in
    let more : List ℕ = changed_rows (y + 1) (drop (y + 1) olds) (drop (y + 1) news) in
    let step = rows_more y olds news (omega (arith, length-replicate c.args.g.now.rows filled)) (omega arith) in
    let test : are_same old row ≡ c.is_row_filled.result =
    ap (λ (r : List Cell). are_same r row) (get_or-replicate c.args.g.now.rows y filled [] (omega arith)) ∙ sym c.is_row_filled.ensures in
    elim c.if-not-is_row_filled.branch [
      | then-not-is_row_filled+in_ok-add_row w ↦
          (λ i. (w.text-is i).bytes ++ more)
          ∙ ap (λ (text : List ℕ). text ++ more) w.in_ok-add_row.ensures
          ∙ append_assoc now (row_text y row) more
          ∙ ap (λ (text : List ℕ). now ++ text)
          (sym (step ∙ row_differs c.is_row_filled.result y old row more test w.if-not-is_row_filled.true))
          ∙ c.loop-y.invariant
      | else-not-is_row_filled w ↦
          (λ i. (w.text-is i).bytes ++ more)
          ∙ ap (λ (text : List ℕ). now ++ text)
          (sym (step ∙ row_stays c.is_row_filled.result y old row more test w.if-not-is_row_filled.false))
          ∙ c.loop-y.invariant
    ]
