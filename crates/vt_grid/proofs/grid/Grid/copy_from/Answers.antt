use Rattle.std.proofs.Common.{◌≡◌, ◌<◌, ℕ, List, [], ◌++◌, length, take, drop, set, get_or, sym, ap, ◌∙◌, add-one, arith}
use Rattle.std.proofs.lemmas.List.{take_all, drop_all, append-nil}
use Rattle.vt_grid.proofs.Copied.{copied_more, get_or_copied, overlaid_all}
use Rattle.vt_grid.specs.Grid.{GridView, with_run}
use Rattle.vt_cells.specs.declared.cell.Cell.{Cell}
use Rattle.vt_grid.proofs.grid.Grid.copy_from.Goals as goal

pub loop-y-preserved : goal.loop-y-preserved
loop-y-preserved c =
    let old : GridView = c.args.self.now in
    let new : GridView = c.args.other.now in
    let y : ℕ = c.loop-y.y in
    let rows : List (List Cell) = take y new.cells ++ drop y old.cells in
    let row : List Cell = get_or new.cells y [] in
    let within : y < length new.cells = omega (arith, c.stays_full.ensures.full.tall) in
    let same : length old.cells ≡ length new.cells =
    omega (arith, c.size-size.ensures.full.tall, c.stays_full.ensures.full.tall) in
    let wide : length row ≡ new.cols = c.stays_full.ensures.full.wide y [] within in
    let wide_old : length (get_or old.cells y []) ≡ old.cols =
    c.size-size.ensures.full.wide y [] (omega (arith, within, same)) in
    let whole : take c.size-size.result.cols row ≡ row =
    take_all c.size-size.result.cols row (omega (arith, wide)) in
    let under : length (get_or rows y []) ≡ length row =
    ap length (get_or_copied new.cells old.cells y within same)
    ∙ omega (arith, wide, wide_old) in
    c.copy_row.ensures
    ∙ (λ i. with_run (c.loop-y.invariant i) y 0 (whole i))
    ∙ ap (λ (cells : List (List Cell)). record new { cells = cells })
    (ap (set rows y) (overlaid_all row (get_or rows y []) under)
    ∙ copied_more new.cells old.cells y within same
    ∙ ap (λ n. take n new.cells ++ drop n old.cells) (sym (add-one y)))

pub returns : goal.returns
returns c =
    let old : GridView = c.args.self.now in
    let new : GridView = c.args.other.now in
    let y : ℕ = c.loop-y.y in
    c.loop-y.invariant
    ∙ ap (λ (cells : List (List Cell)). record new { cells = cells })
    ((λ i. take_all y new.cells (omega (arith, c.stays_full.ensures.full.tall)) i
    ++ drop_all y old.cells (omega (arith, c.size-size.ensures.full.tall)) i)
    ∙ append-nil new.cells)
