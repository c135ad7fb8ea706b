use Rattle.key_text.proofs.Lengths.{OpenBelow}
use Rattle.key_text.proofs.words.close_at.Given as goal

abbrev pub invariant-loop-i : goal.invariant-loop-i
invariant-loop-i l = OpenBelow l.quote l.items l.i l.escaped
