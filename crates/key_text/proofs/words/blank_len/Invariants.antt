use Rattle.key_text.specs.Words.{is_blank}
use Rattle.key_text.proofs.Lengths.{PassesBelow}
use Rattle.key_text.proofs.words.blank_len.Given as goal

abbrev pub invariant-loop-i : goal.invariant-loop-i
invariant-loop-i l = PassesBelow (λ p. is_blank p.byte) l.items l.i
