use Rattle.std.proofs.Common.{◌≡◌, ◌++◌, take}
use Rattle.key_tables.specs.Listing.{table_text, texts_from}
use Rattle.key_tables.proofs.listing.add_maps.Given as goal

abbrev pub invariant-loop-t : goal.invariant-loop-t
invariant-loop-t l = l.text.bytes ≡ l.initial.text.bytes ++ texts_from table_text 0 (take l.t l.maps)
