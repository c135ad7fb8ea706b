use Rattle.std.proofs.Common.{◌≡◌, take}
use Rattle.key_syms.proofs.name.text_of.Given as goal

abbrev pub invariant-loop-b : goal.invariant-loop-b
invariant-loop-b l = l.text.bytes ≡ take l.b-index l.name
