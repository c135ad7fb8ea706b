use Rattle.std.proofs.Common.{◌≡◌, ◌++◌, map, take, drop}
use Rattle.vt_grid.specs.Ring.{blank_slot}
use Rattle.vt_grid.proofs.rows.store.edits.cut_each.Given as goal

abbrev pub invariant-loop-i : goal.invariant-loop-i
invariant-loop-i l =
    l.rows ≡ map (blank_slot l.c) (take l.i l.fn.rows) ++ drop l.i l.fn.rows
