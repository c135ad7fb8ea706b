use Rattle.std.proofs.Common.{◌≡◌, ◌<◌, ◌≤◌, ℕ, List, length, take, ap, ◌∙◌, arith}
use Rattle.std.proofs.lemmas.List.{length-take, length-take-le}
use Rattle.vt_canvas.proofs.Prefixes.{plain_within, prefix_all}
use Rattle.vt_canvas.proofs.Spread.{plain_front, put_narrow}
use Rattle.vt_cells.proofs.Stated.{columns_are_few-most, columns_are_few-plain}
use Rattle.vt_cells.specs.Width.{is_plain}
use Rattle.vt_canvas.specs.Printing.{with_cells_at_cursor}
use Rattle.vt_canvas.specs.Screen.{Screen}
use Rattle.vt_grid.proofs.Stated.{stretches_join}
use Rattle.vt_canvas.proofs.canvas.Canvas.print_plain.Goals as goal

pub returns-then-count-gt0-clause-printed : goal.returns-then-count-gt0-clause-printed
returns-then-count-gt0-clause-printed c =
    let s : Screen = c.args.self.now in
    let codes : List ℕ = c.args.codes.now in
    let m : ℕ = c.min.result in
    let count : ℕ = c.plain_prefix-count.result in
    let within : count ≤ length (take m codes) = omega (arith, c.plain_prefix-count.ensures, plain_within (take m codes)) in
    let short : count ≤ m = omega (arith, within, length-take m codes) in
    let fits_codes : count ≤ length codes = omega (arith, within, length-take m codes) in
    let plain = plain_front columns_are_few-plain codes m count c.plain_prefix-count.ensures short in
    let len : length (take count codes) ≡ count = length-take-le count codes fits_codes in
    let some : 0 < length (take count codes) = omega (arith, len, c.if-count-gt0.true) in
    let in_room : count ≤ c.room.result = omega (arith, short, c.min.ensures) in
    let more : 0 < c.room.result = omega (arith, in_room, c.if-count-gt0.true) in
    c.put_plain.ensures
    ∙ ap (λ (cells : List ℕ). with_cells_at_cursor cells s) plain.0
    ∙ put_narrow stretches_join columns_are_few-most (take count codes) s plain.1 c.room.ensures.whole some
    (c.room.ensures.unwrapped more) (c.room.ensures.closed more) (omega (arith, len, in_room, c.room.ensures.fits))

pub put_plain-requires-clause-plain : goal.put_plain-requires-clause-plain
put_plain-requires-clause-plain c =
    prefix_all is_plain (take c.min.result c.args.codes.now) c.plain_prefix-count.result c.plain_prefix-count.ensures
