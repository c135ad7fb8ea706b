use Rattle.std.proofs.Common.{◌≡◌, ◌<◌, ◌≤◌, ℕ, List, length, take, sym, ap, ◌∙◌, arith}
use Rattle.vt_canvas.proofs.Spread.{put_cells_of_characters}
use Rattle.vt_canvas.specs.Printing.{cells_of_characters}
use Rattle.vt_canvas.specs.Screen.{Screen}
use Rattle.vt_cells.proofs.Stated.{columns_are_few-most}
use Rattle.vt_grid.proofs.Stated.{stretches_join}
use Rattle.vt_canvas.proofs.canvas.Canvas.print_spread.Goals as goal

pub returns-clause-printed : goal.returns-clause-printed
returns-clause-printed c =
    let s : Screen = c.args.self.now in
    let front : List ℕ = take c.fitting_prefix-count.result c.args.codes.now in
    let cells : List ℕ = c.as_slice.result.now in
    let is : cells ≡ cells_of_characters front = c.as_slice.ensures.codes ∙ c.fitting_prefix-count.ensures.cells in
    let len : length cells ≡ c.len.result = ap length c.as_slice.ensures.codes ∙ sym c.len.ensures.count in
    let some : 0 < length cells = omega (arith, len, c.if-len-eq0.false) in
    let short : length cells ≤ c.room.result =
    omega (arith, ap length c.as_slice.ensures.codes, c.fitting_prefix-count.ensures.most, c.min.ensures) in
    let more : 0 < c.room.result = omega (arith, some, short) in
    c.put_codes.ensures
    ∙ put_cells_of_characters stretches_join columns_are_few-most front cells s is c.room.ensures.whole some
    (c.room.ensures.unwrapped more) (c.room.ensures.closed more) (omega (arith, short, c.room.ensures.fits))
