use Rattle.std.proofs.Common.{rules, [], refl, ap}
use Rattle.turn_lock.specs.declared.at_door.AtDoor.TheVariants as at_door
use Rattle.turn_lock.proofs.Doors.{arrives_ok, draws_ok}
use Rattle.turn_lock.proofs.door.Door.visit.Goals as goal

pub load_new_seat-seat-requires : goal.load_new_seat-seat-requires
load_new_seat-seat-requires c = (search rules, arrives_ok _ _ (at_door.Away, []) refl)

pub fetch_add-number-requires : goal.fetch_add-number-requires
fetch_add-number-requires c = (
  search rules,
  search rules,
  draws_ok _ _ _ (ap (λ m. m.0) c.load_new_seat-seat.ensures.2),
)
