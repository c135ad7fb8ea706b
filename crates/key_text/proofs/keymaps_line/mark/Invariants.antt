use Rattle.key_text.proofs.Marks.{MarkedBelow}
use Rattle.key_text.proofs.keymaps_line.mark.Given as goal

abbrev pub invariant-loop-t : goal.invariant-loop-t
invariant-loop-t l = MarkedBelow l.range l.initial.tables.items l.tables.items l.t
