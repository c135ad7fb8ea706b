use Rattle.std.proofs.Common.{◌<◌, ℕ, List, length, ◌∙◌, arith}
use Rattle.std.proofs.lemmas.Bool.Decides.{nat_tests}
use Rattle.vt_canvas.proofs.Spread.{put_narrow}
use Rattle.vt_canvas.specs.Screen.{Screen}
use Rattle.vt_cells.proofs.Stated.{columns_are_few-most}
use Rattle.vt_grid.proofs.Stated.{stretches_join}
use Rattle.vt_canvas.proofs.canvas.Canvas.print_bytes.Goals as goal

pub returns : goal.returns
returns c =
    let s : Screen = c.args.self.now in
    let bytes : List ℕ = c.args.bytes.now in
    let some : 0 < length bytes = grind (arith, nat_tests, c.is_empty.ensures, c.if-is_empty.false) in
    let room_is = c.room.ensures.room in
    let more : 0 < c.room.result = omega (arith, c.requires.some, room_is) in
    c.put_bytes.ensures
    ∙ put_narrow stretches_join columns_are_few-most bytes s c.requires.narrow c.room.ensures.whole some
    (c.room.ensures.unwrapped more) (c.room.ensures.closed more)
    (omega (arith, c.requires.room, room_is, c.room.ensures.fits))
