use Rattle.std.proofs.Common.{◌≡◌, ◌≤◌, ◌-◌, drop, length}
use Rattle.vt_canvas.specs.Printing.{print_characters}
use Rattle.vt_canvas.proofs.canvas.Canvas.print_codes.Given as goal

abbrev pub invariant-loop-at : goal.invariant-loop-at
invariant-loop-at l = record {
  within : l.at ≤ length l.codes;
  left : print_characters (drop l.at l.codes) l.self ≡ print_characters l.codes l.fn.self;
}

abbrev pub decreases-loop-at : goal.decreases-loop-at
decreases-loop-at l = length l.codes - l.at
