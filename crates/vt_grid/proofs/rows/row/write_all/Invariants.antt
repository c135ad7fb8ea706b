use Rattle.std.proofs.Common.{◌≡◌, ◌++◌, map, take, drop}
use Rattle.vt_grid.proofs.rows.row.write_all.Given as goal

abbrev pub invariant-loop-i : goal.invariant-loop-i
invariant-loop-i g l =
    l.cells
    ≡ map (λ c. record { code = g.T.Code.code_of c; attr = l.attr }) (take l.i l.codes)
    ++ drop l.i l.fn.cells
