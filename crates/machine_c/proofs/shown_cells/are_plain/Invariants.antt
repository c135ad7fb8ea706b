use Rattle.std.proofs.Common.{take}
use Rattle.std.specs.List.{All}
use Rattle.c_cells.specs.Cells.{HasNoSpare}
use Rattle.machine_c.proofs.shown_cells.are_plain.Given as goal

abbrev pub invariant-loop-i : goal.invariant-loop-i
invariant-loop-i l = All HasNoSpare (take l.i l.cells)
