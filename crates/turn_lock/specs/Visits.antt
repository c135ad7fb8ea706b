-- A caller at the door, for the contracts: it waits with its number, or it came in.
use Rattle.std.specs.Prelude.{◌≡◌, []}
use Rattle.turn_lock.specs.declared.at_door.AtDoor.TheVariants as at_door
use Rattle.turn_lock.specs.declared.visitor.Visitor.{Visitor}

-- it waits with its number
abbrev pub WaitsAt : Visitor → Type 0
WaitsAt visitor = visitor.seat.me ≡ (at_door.Waits visitor.number, [])

-- it came in
abbrev pub HasCome : Visitor → Type 0
HasCome visitor = visitor.seat.me ≡ (at_door.Entered, [])
