use Rattle.std.proofs.Common.{◌≡◌, ◌-◌, ◌<◌, ◌==◌, suc, length, true, false, ap, ◌∙◌, arith}
use Rattle.std.proofs.lemmas.Bool.Decides.{nat_tests}
use Rattle.vt_cells.specs.Width.{half, is_half}
use Rattle.vt_grid.proofs.Split.{both_space_in_colours, whole_none}
use Rattle.vt_grid.specs.Grid.{GridView, with_cell}
use Rattle.vt_grid.proofs.grid.Grid.space.Goals as goal

pub returns-then-right-eq-HALF : goal.returns-then-right-eq-HALF
returns-then-right-eq-HALF c =
    let s = c.args.self.now in
    let y = c.args.y in
    let x = c.args.x in
    let half_is : is_half c.at-right.result ≡ true = ap (λ n. n == half) c.if-right-eq-HALF.true in
    let x_is : x ≡ suc (x - 1) = omega (arith, c.requires.some) in
    let y_in : y < length s.cells = omega (arith, c.requires.place.row, c.stays_full.ensures.full.tall) in
    c.put-then-right-eq-HALF.ensures
    ∙ ap (λ (t : GridView). with_cell t y x c.space_in_colours-then-right-eq-HALF.result) c.put.ensures
    ∙ (λ i. with_cell (with_cell s y (x - 1) (c.space_in_colours.ensures i)) y x (c.space_in_colours-then-right-eq-HALF.ensures i))
    ∙ both_space_in_colours s y (x - 1) x c.at-left.result c.at-right.result x_is y_in c.at-left.ensures c.at-right.ensures half_is

pub returns-else-right-eq-HALF : goal.returns-else-right-eq-HALF
returns-else-right-eq-HALF c =
    let none : is_half c.at-right.result ≡ false = grind (arith, nat_tests) in
    whole_none c.args.self.now c.args.y c.args.x c.at-right.result c.at-right.ensures none
