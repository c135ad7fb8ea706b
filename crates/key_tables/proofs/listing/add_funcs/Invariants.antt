use Rattle.std.proofs.Common.{◌≡◌, ◌++◌, take}
use Rattle.key_tables.specs.Listing.{func_text, texts_from}
use Rattle.key_tables.proofs.listing.add_funcs.Given as goal

abbrev pub invariant-loop-i : goal.invariant-loop-i
invariant-loop-i l = l.text.bytes ≡ l.initial.text.bytes ++ texts_from func_text 0 (take l.i l.funcs)
