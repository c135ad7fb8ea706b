use Rattle.std.proofs.Common.{◌≡◌, ◌++◌, take}
use Rattle.key_tables.specs.Listing.{entry_text, texts_from}
use Rattle.key_tables.proofs.listing.add_map.Given as goal

abbrev pub invariant-loop-c : goal.invariant-loop-c
invariant-loop-c l = l.text.bytes ≡ l.initial.text.bytes ++ texts_from (entry_text l.t) 0 (take l.c l.entries)
