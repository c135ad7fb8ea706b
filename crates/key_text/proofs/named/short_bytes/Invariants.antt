use Rattle.std.proofs.Common.{◌≡◌, length, take}
use Rattle.key_text.specs.Words.{bytes}
use Rattle.key_text.proofs.named.short_bytes.Given as goal

abbrev pub invariant-loop-i : goal.invariant-loop-i
invariant-loop-i l = (length l.text ≡ 32) × (take l.i l.text ≡ take l.i (bytes l.word))
