use Rattle.std.proofs.Common.{nat_lt}
use Rattle.key_text.proofs.Lengths.{PassesBelow}
use Rattle.key_text.proofs.words.plain_len.Given as goal

abbrev pub invariant-loop-i : goal.invariant-loop-i
invariant-loop-i l = PassesBelow (λ p. nat_lt p.byte 128) l.items l.i
