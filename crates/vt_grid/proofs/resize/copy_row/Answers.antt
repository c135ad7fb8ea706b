use Rattle.std.proofs.Common.{◌≡◌, ◌-◌, suc, List, [], length, take, set, sym, ap, ◌∙◌, arith}
use Rattle.std.proofs.lemmas.List.{length-take-le}
use Rattle.vt_grid.proofs.Border.{split_wide_past}
use Rattle.vt_grid.proofs.Covered.{split_wide_last}
use Rattle.vt_grid.proofs.Laid.{with_run-set}
use Rattle.vt_grid.specs.Grid.{GridView, row_at, with_cell, with_run}
use Rattle.vt_grid.specs.Halves.{split_wide}
use Rattle.vt_cells.specs.declared.cell.Cell.{Cell}
use Rattle.vt_grid.proofs.resize.copy_row.Goals as goal

pub returns-then-cols-gt0 : goal.returns-then-cols-gt0
returns-then-cols-gt0 c =
    let fresh = c.args.fresh.now in
    let border = c.args.border in
    let row = row_at c.args.old.now c.args.from in
    let full = c.size-was.ensures.full in
    let cols = c.args.cols in
    let last = cols - 1 in
    let cell = c.at_parted.result in
    let wide : length row ≡ c.args.old.now.cols = full.wide c.args.from [] (omega (arith, full.tall)) in
    let cols_is : suc last ≡ cols = omega (arith, c.if-cols-gt0.true) in
    let len : length (take cols row) ≡ cols = length-take-le cols row (omega (arith, wide)) in
    c.put.ensures
    ∙ ap (λ (s : GridView). with_cell s c.args.y last cell) c.copy_row.ensures
    ∙ with_run-set fresh c.args.y last (take cols row) cell c.stays_full.ensures.full c.requires.run.row
    (omega (arith, len, cols_is)) (omega (arith, len))
    ∙ ap (with_run fresh c.args.y 0)
    (ap (λ n. set (take n row) last cell) (sym cols_is)
    ∙ split_wide_last border last row cell (omega (arith, cols_is)) (omega (arith, cols_is, wide)) c.at_parted.ensures
    ∙ ap (λ n. take n (split_wide border row)) cols_is)

pub returns-else-border-was : goal.returns-else-border-was
returns-else-border-was c =
    let border = c.args.border in
    let row = row_at c.args.old.now c.args.from in
    let full = c.size-was.ensures.full in
    let wide : length row ≡ c.args.old.now.cols = full.wide c.args.from [] (omega (arith, full.tall)) in
    c.copy_row.ensures
    ∙ ap (λ (cells : List Cell). with_run c.args.fresh.now c.args.y 0 (take c.args.cols cells))
    (sym (split_wide_past border row (omega (arith, wide, c.size-was.ensures.cols, c.if-border-was.false))))
