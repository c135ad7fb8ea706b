use Rattle.std.proofs.Common.{◌≡◌, take}
use Rattle.vt_grid.proofs.grid.Grid.same.Given as goal

-- the rows above y are the same
abbrev pub invariant-loop-y : goal.invariant-loop-y
invariant-loop-y l = take l.y l.self.cells ≡ take l.y l.other.cells
