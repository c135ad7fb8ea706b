use Rattle.key_tables.proofs.Holes.{holes_are_map}
use Rattle.key_tables.proofs.table.Table.holes.Goals as goal

pub invariant_of-result : goal.invariant_of-result
invariant_of-result c = holes_are_map c.in_ok-entries.entries.items c.in_ok-entries.ensures
