use Rattle.std.proofs.Common.{◌≡◌, ◌++◌, take}
use Rattle.std.specs.List.{flat_map}
use Rattle.key_dump.specs.Dump.{escape_of}
use Rattle.key_dump.proofs.quoting.add_escaped.Given as goal

abbrev pub invariant-loop-b : goal.invariant-loop-b
invariant-loop-b l = l.text.bytes ≡ l.initial.text.bytes ++ flat_map escape_of (take l.b-index l.string)
