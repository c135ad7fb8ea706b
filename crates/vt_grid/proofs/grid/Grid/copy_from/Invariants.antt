use Rattle.std.proofs.Common.{◌≡◌, ◌++◌, take, drop}
use Rattle.vt_grid.proofs.grid.Grid.copy_from.Given as goal

abbrev pub invariant-loop-y : goal.invariant-loop-y
invariant-loop-y l =
    l.self ≡ record l.other { cells = take l.y l.other.cells ++ drop l.y l.fn.self.cells }
