use Rattle.key_text.specs.Quoted.{is_octal}
use Rattle.key_text.proofs.Lengths.{PassesBelow}
use Rattle.key_text.proofs.quoted.digits_len.Given as goal

abbrev pub invariant-loop-i : goal.invariant-loop-i
invariant-loop-i l = PassesBelow is_octal l.text l.i
