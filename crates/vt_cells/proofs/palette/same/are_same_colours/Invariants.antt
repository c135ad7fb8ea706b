use Rattle.std.proofs.Common.{◌≡◌, take}
use Rattle.vt_cells.proofs.palette.same.are_same_colours.Given as goal

-- the first i colours are the same
abbrev pub invariant-loop-i : goal.invariant-loop-i
invariant-loop-i l = take l.i l.colours ≡ take l.i l.others
