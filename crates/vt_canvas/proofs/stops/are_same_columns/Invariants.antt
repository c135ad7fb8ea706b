use Rattle.std.proofs.Common.{◌≡◌, IsTrue, take}
use Rattle.vt_canvas.proofs.stops.are_same_columns.Given as goal

-- if `same`, the first i columns are the same
abbrev pub invariant-loop-i : goal.invariant-loop-i
invariant-loop-i l = IsTrue l.same → take l.i l.columns ≡ take l.i l.others
