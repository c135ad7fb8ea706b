use Rattle.std.proofs.Common.{◌≡◌, ◌++◌, take}
use Rattle.std.specs.List.{flat_map}
use Rattle.key_tables.specs.Listing.{pair_text}
use Rattle.key_tables.proofs.listing.add_pairs.Given as goal

abbrev pub invariant-loop-pair : goal.invariant-loop-pair
invariant-loop-pair l = l.text.bytes ≡ l.initial.text.bytes ++ flat_map pair_text (take l.pair-index l.pairs)
