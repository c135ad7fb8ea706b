use Rattle.std.proofs.Common.{◌≡◌}
use Rattle.turn_lock.specs.Visits.{WaitsAt}
use Rattle.turn_lock.proofs.door.Door.wait.Given as goal

abbrev pub invariant-loop : goal.invariant-loop
invariant-loop g l = record {
  can_next : (goal.iterator-loop g).can_next l.iterator';
  finite : (goal.iterator-loop g).is_finite l.iterator';
  door : l.visitor.seat.table_id ≡ l.self.counts.shared.table_id;
  waits : WaitsAt l.visitor;
  same : l.visitor.number ≡ l.number;
}
