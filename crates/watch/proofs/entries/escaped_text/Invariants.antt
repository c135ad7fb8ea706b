use Rattle.std.proofs.Common.{◌≡◌, ◌++◌, drop}
use Rattle.std.specs.List.{flat_map}
use Rattle.watch.specs.Entries.{escaped_byte}
use Rattle.watch.proofs.entries.escaped_text.Given as goal

abbrev pub invariant-loop-b : goal.invariant-loop-b
invariant-loop-b l = l.text.bytes ++ flat_map escaped_byte (drop l.b-index l.bytes) ≡ flat_map escaped_byte l.bytes
