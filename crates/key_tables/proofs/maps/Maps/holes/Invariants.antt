use Rattle.key_tables.proofs.Holes.{AreBegun}
use Rattle.key_tables.proofs.maps.Maps.holes.Given as goal

abbrev pub invariant-loop-t : goal.invariant-loop-t
invariant-loop-t l = AreBegun l.declared l.places.items l.kept.items l.t
