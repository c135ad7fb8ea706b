use Rattle.std.proofs.Common.{◌==◌, not}
use Rattle.key_text.proofs.Lengths.{PassesBelow}
use Rattle.key_text.proofs.keymaps_line.before.Given as goal

abbrev pub invariant-loop-i : goal.invariant-loop-i
invariant-loop-i l = PassesBelow (λ b. not (b == l.mark)) l.text l.i
