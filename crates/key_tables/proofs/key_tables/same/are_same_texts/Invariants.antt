use Rattle.std.proofs.Common.{◌≡◌, take}
use Rattle.key_tables.proofs.key_tables.same.are_same_texts.Given as goal

-- the first i strings are the same
abbrev pub invariant-loop-i : goal.invariant-loop-i
invariant-loop-i l = take l.i l.texts ≡ take l.i l.others
