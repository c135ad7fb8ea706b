use Rattle.std.proofs.Common.{◌≡◌, ◌++◌, drop}
use Rattle.vt_redraw.specs.State.{colours_from}
use Rattle.vt_redraw.proofs.palette.add_colours.Given as goal

abbrev pub invariant-loop-n : goal.invariant-loop-n
invariant-loop-n l =
    l.text.bytes ++ colours_from l.n (drop l.n l.starts) (drop l.n l.colours)
    ≡ l.initial.text.bytes ++ colours_from 0 l.starts l.colours
