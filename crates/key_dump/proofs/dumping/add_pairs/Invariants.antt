use Rattle.std.proofs.Common.{◌≡◌, ◌++◌, map, take}
use Rattle.std.specs.List.{flat_map}
use Rattle.key_dump.specs.Dump.{pair_words, row_text}
use Rattle.key_dump.proofs.dumping.add_pairs.Given as goal

abbrev pub invariant-loop-i : goal.invariant-loop-i
invariant-loop-i l = l.text.bytes ≡ l.initial.text.bytes ++ flat_map row_text (map pair_words (take l.i l.pairs))
