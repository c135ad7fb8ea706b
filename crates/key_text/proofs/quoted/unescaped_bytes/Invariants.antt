use Rattle.key_text.proofs.Unescaping.{IsUnescaped}
use Rattle.key_text.proofs.quoted.unescaped_bytes.Given as goal

abbrev pub invariant-loop-turn : goal.invariant-loop-turn
invariant-loop-turn l = IsUnescaped l.text l.bytes.items l.rest l._turn
