use Rattle.std.proofs.Common.{◌≡◌, ◌-◌, ◌++◌}
use Rattle.vt_picture.specs.Picture.{edges}
use Rattle.vt_picture.proofs.letters.add_edges.Given as goal

abbrev pub invariant-loop-column : goal.invariant-loop-column
invariant-loop-column l =
    l.text.bytes ++ edges l.column (l.end - l.column) ≡ l.fn.text.bytes ++ edges l.x (l.end - l.x)
