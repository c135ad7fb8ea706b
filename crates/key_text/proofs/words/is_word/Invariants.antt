use Rattle.std.proofs.Common.{◌≡◌, drop}
use Rattle.key_text.specs.Words.{is_word}
use Rattle.key_text.proofs.words.is_word.Given as goal

abbrev pub invariant-loop-i : goal.invariant-loop-i
invariant-loop-i l = is_word (drop l.i l.text) (drop l.i l.word) ≡ is_word l.text l.word
