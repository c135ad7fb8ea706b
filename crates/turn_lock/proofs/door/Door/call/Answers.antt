use Rattle.std.proofs.Common.{rules, [], refl, ap}
use Rattle.turn_lock.specs.declared.at_door.AtDoor.TheVariants as at_door
use Rattle.turn_lock.proofs.Doors.{calls_ok, reads_came_ok, reads_entered_ok}
use Rattle.turn_lock.proofs.door.Door.call.Goals as goal

pub load_new_seat-entered-requires : goal.load_new_seat-entered-requires
load_new_seat-entered-requires c = (search rules, reads_entered_ok _ (at_door.Away, []) refl)

pub load-requires : goal.load-requires
load-requires c = (
  search rules,
  search rules,
  reads_came_ok _ _ _ c.load_new_seat-entered.result.0 (ap (λ m. m.0) c.load_new_seat-entered.ensures.2),
)

pub compare_exchange-requires : goal.compare_exchange-requires
compare_exchange-requires c = (
  search rules,
  search rules,
  calls_ok _ _ _ _ _ (search rules) refl,
)
