use Rattle.vt_explore.proofs.Holding.{same_tables, seen_same}
use Rattle.vt_explore.proofs.Positions.{alike_of_same}
use Rattle.session_order.specs.Orders.{history_of}
use Rattle.vt_explore.proofs.held.Held.is_like.Goals as goal

pub returns : goal.returns
returns c = λ yes o few here there.
    alike_of_same o (history_of o c.args.self.now.order) (history_of o c.args.other.now.order) c.args.self.now.position
    c.args.other.now.position few here there
    (seen_same c.args.self.now.position c.args.other.now.position c.position.result.now c.position-2.result.now
    c.position.ensures c.position-2.ensures (c.same.ensures yes)
    (same_tables o c.args.self.now c.args.other.now here there))
