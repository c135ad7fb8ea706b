use Rattle.std.proofs.Common.{ℕ, take}
use Rattle.key_syms.proofs.Digits.{IsRead}
use Rattle.key_syms.proofs.numeral.digits.Given as goal

abbrev pub invariant-loop-b : goal.invariant-loop-b
invariant-loop-b l = (n : ℕ) × IsRead l.base (take l.b-index l.text) n l.number
