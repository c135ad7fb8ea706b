use Rattle.std.proofs.Common.{rules, ap}
use Rattle.turn_lock.proofs.Doors.{comes_in_ok, looks_ok}
use Rattle.turn_lock.proofs.door.Door.wait.Goals as goal

pub load-called-requires : goal.load-called-requires
load-called-requires g c = (
  search rules,
  search rules,
  looks_ok _ _ _ c.loop.visitor.number (ap (λ m. m.0) c.loop.invariant.waits),
)

pub fetch_add-requires : goal.fetch_add-requires
fetch_add-requires g c = (
  search rules,
  search rules,
  comes_in_ok _ _ _ c.loop.visitor.number (search rules),
)
