use Rattle.std.proofs.Common.{◌≡◌, ◌≤◌, length, take}
use Rattle.vt_canvas.specs.Printing.{cells_of_characters}
use Rattle.vt_canvas.proofs.canvas.prefixes.fitting_prefix.Given as goal

abbrev pub invariant-loop-i : goal.invariant-loop-i
invariant-loop-i l = record {
  cells : l.cells ≡ cells_of_characters (take l.i l.codes);
  few : length l.cells ≤ l.most;
}
