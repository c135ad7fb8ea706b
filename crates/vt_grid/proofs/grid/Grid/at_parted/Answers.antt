use Rattle.std.proofs.Common.{◌≡◌, ◌==◌, [], suc, length, Some, true, false, sym, ap, ◌∙◌, arith}
use Rattle.std.proofs.lemmas.Bool.Decides.{nat_tests}
use Rattle.vt_cells.specs.Width.{half, is_half}
use Rattle.vt_grid.proofs.Border.{split_wide_past}
use Rattle.vt_grid.proofs.Split.{get_away, get_left, get_same, none_there}
use Rattle.vt_grid.specs.Grid.{row_at}
use Rattle.vt_grid.proofs.grid.Grid.at_parted.Goals as goal

pub returns-then-border-x-gt1 : goal.returns-then-border-x-gt1
returns-then-border-x-gt1 c =
    let s = c.args.self.now in
    let row = row_at s c.args.y in
    let full = c.size-cols.ensures.full in
    let wide : length row ≡ s.cols = full.wide c.args.y [] (omega (arith, full.tall, c.requires.place.row)) in
    get_away row c.args.border c.args.x c.at-cell.result (omega (arith, wide, c.requires.place.column))
    (omega (arith, c.if-border-x-gt1.true)) c.at-cell.ensures

pub returns-then-cols-border : goal.returns-then-cols-border
returns-then-cols-border c =
    let s = c.args.self.now in
    let row = row_at s c.args.y in
    let full = c.size-cols.ensures.full in
    let wide : length row ≡ s.cols = full.wide c.args.y [] (omega (arith, full.tall, c.requires.place.row)) in
    get_same row c.args.border c.args.x c.at-cell.result
    (split_wide_past c.args.border row (omega (arith, wide, c.size-cols.ensures.cols, c.if-cols-border.true))) c.at-cell.ensures

pub returns-then-at-eq-HALF : goal.returns-then-at-eq-HALF
returns-then-at-eq-HALF c =
    let s = c.args.self.now in
    let row = row_at s c.args.y in
    let full = c.size-cols.ensures.full in
    let wide : length row ≡ s.cols = full.wide c.args.y [] (omega (arith, full.tall, c.requires.place.row)) in
    let half_is : is_half c.at.result ≡ true = ap (λ n. n == half) c.if-at-eq-HALF.true in
    let next : c.args.border ≡ suc c.args.x = omega (arith, c.requires.before, c.if-border-x-gt1.false) in
    get_left row c.args.border c.args.x c.at-cell.result c.at.result next
    (omega (arith, wide, c.size-cols.ensures.cols, c.if-cols-border.false)) c.at-cell.ensures c.at.ensures half_is
    ∙ ap Some (sym c.space_in_colours.ensures)

pub returns-else-at-eq-HALF : goal.returns-else-at-eq-HALF
returns-else-at-eq-HALF c =
    let row = row_at c.args.self.now c.args.y in
    let none : is_half c.at.result ≡ false = grind (arith, nat_tests) in
    get_same row c.args.border c.args.x c.at-cell.result
    (none_there row c.args.border c.at.result c.at.ensures none) c.at-cell.ensures
