use Rattle.std.proofs.Common.{◌≡◌, ◌+◌, ◌<◌, List, [], length, take, drop, set, get_or, min, inl, inr, sym, ap, ◌∙◌, add-one, add_comm, arith}
use Rattle.std.proofs.lemmas.Bool.{cases_lt}
use Rattle.std.proofs.lemmas.List.{get_or-drop, length-drop, take_all}
use Rattle.vt_grid.proofs.Laid.{get_or-rows_laid_over, overlaid-laid_over, rows_laid_over_all, rows_laid_over_more}
use Rattle.vt_grid.proofs.Split.{full_split_wide, row_of_split_wide}
use Rattle.vt_grid.specs.Grid.{IsFull, GridView, overlaid, row_at, rows_laid_over, with_run}
use Rattle.vt_grid.specs.Halves.{split_wide, split_wide_rows}
use Rattle.vt_cells.specs.declared.cell.Cell.{Cell}
use Rattle.vt_grid.proofs.resize.copy_cells.Goals as goal

pub loop-y-preserved : goal.loop-y-preserved
loop-y-preserved c =
    let fresh = c.args.fresh.now in
    let whole = c.args.old.now in
    let border = c.args.border in
    let old : GridView = split_wide_rows border whole in
    let olds = drop c.args.skip old.cells in
    let y = c.loop-y.y in
    let laid = rows_laid_over (take y olds) fresh.cells in
    let row = get_or olds y [] in
    let under = get_or fresh.cells y [] in
    let new_full = c.size-new.ensures.full in
    let old_full : IsFull old = full_split_wide whole border c.size-was.ensures.full in
    let in_olds : y < length olds =
    omega (arith, length-drop c.args.skip old.cells, old_full.tall) in
    let in_fresh : y < length fresh.cells = omega (arith, new_full.tall) in
    let shown : row_at old (y + c.args.skip) ≡ row =
    ap (λ n. get_or old.cells n []) (add_comm y c.args.skip)
    ∙ sym (get_or-drop c.args.skip old.cells y []) in
    let read : split_wide border (row_at whole (y + c.args.skip)) ≡ row =
    row_of_split_wide whole border (y + c.args.skip) (omega (arith, c.size-was.ensures.full.tall)) ∙ shown in
    let wide_row : length row ≡ old.cols =
    ap length (sym shown)
    ∙ old_full.wide (y + c.args.skip) [] (omega (arith, old_full.tall)) in
    let wide_under : length under ≡ fresh.cols = new_full.wide y [] in_fresh in
    let cols_is : c.min-cols.result ≡ min (length under) (length row) = omega arith in
    c.copy_row.ensures
    ∙ (λ i. with_run (c.loop-y.invariant i) y 0 (take c.min-cols.result (read i)))
    ∙ ap (λ (cells : List (List Cell)). record fresh { cells = cells })
    ((λ i. set laid y
    (overlaid 0 (take c.min-cols.result row) (get_or-rows_laid_over olds fresh.cells y in_olds i)))
    ∙ ap (set laid y) (overlaid-laid_over c.min-cols.result row under cols_is)
    ∙ rows_laid_over_more olds fresh.cells y in_olds in_fresh
    ∙ ap (λ n. rows_laid_over (take n olds) fresh.cells) (sym (add-one y)))

pub returns : goal.returns
returns c =
    let fresh = c.args.fresh.now in
    let whole = c.args.old.now in
    let border = c.args.border in
    let old : GridView = split_wide_rows border whole in
    let olds = drop c.args.skip old.cells in
    let y = c.loop-y.y in
    let new_full = c.size-new.ensures.full in
    let old_full : IsFull old = full_split_wide whole border c.size-was.ensures.full in
    let left = length-drop c.args.skip old.cells in
    c.loop-y.invariant
    ∙ ap (λ (cells : List (List Cell)). record fresh { cells = cells })
    (elim (cases_lt y (length fresh.cells)) [
      | inl short ↦
          ap (λ (rows : List (List Cell)). rows_laid_over rows fresh.cells)
          (take_all y olds (omega (arith, left, new_full.tall, old_full.tall)))
      | inr whole ↦ rows_laid_over_all olds fresh.cells y whole
    ])
