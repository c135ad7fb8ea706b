use Rattle.std.proofs.Common.{◌≡◌, ◌++◌, take}
use Rattle.std.specs.List.{flat_map}
use Rattle.key_tables.specs.Listing.{number_text}
use Rattle.key_tables.proofs.listing.add_line.Given as goal

abbrev pub invariant-loop-n : goal.invariant-loop-n
invariant-loop-n l = l.text.bytes ≡ l.initial.text.bytes ++ flat_map number_text (take l.n-index l.numbers)
