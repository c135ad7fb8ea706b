use Rattle.std.proofs.Common.{◌≡◌, ◌++◌, drop}
use Rattle.vt_review.specs.Lines.{ear_lines, make_told}
use Rattle.vt_review.proofs.lines.add_lines.Given as goal

abbrev pub invariant-loop-a : goal.invariant-loop-a
invariant-loop-a g l =
    l.text.bytes ++ ear_lines l.a l.e (drop l.a l.ears) (make_told l.kind l.console l.end)
    ≡ l.fn.text.bytes ++ ear_lines 0 l.e l.ears (make_told l.kind l.console l.end)
