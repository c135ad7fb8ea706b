use Rattle.std.proofs.Common.{◌≡◌, IsTrue, take}
use Rattle.vt_chars.proofs.char_map.same.are_same_words.Given as goal

-- if `same`, the first i code points are the same
abbrev pub invariant-loop-i : goal.invariant-loop-i
invariant-loop-i l = IsTrue l.same → take l.i l.words ≡ take l.i l.others
