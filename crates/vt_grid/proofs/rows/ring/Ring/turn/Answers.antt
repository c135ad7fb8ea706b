use Rattle.std.proofs.Common.{◌≡◌, ◌≤◌, length, arith, sym, ap, ◌∙◌}
use Rattle.vt_grid.proofs.Turns.{rotation_by-rotation_by, length-rotation_by}
use Rattle.vt_grid.specs.Store.{rotation_by}
use Rattle.vt_grid.proofs.rows.ring.Ring.turn.Goals as goal

pub returns : goal.returns
returns c =
    let numbers = c.self.inside.numbers.items in
    let len : c.len.result ≡ length numbers = omega arith in
    let within : c.args.n ≤ length numbers =
    omega (arith, ap length c.self.view_is, length-rotation_by c.self.inside.head numbers) in
    sym (rotation_by-rotation_by c.self.inside.head c.args.n c.place_of.result c.self.inside.numbers.items
    (omega arith) within (omega arith) (rw (← len) c.place_of.ensures.place))
    ∙ ap (rotation_by c.args.n) c.self.view_is
