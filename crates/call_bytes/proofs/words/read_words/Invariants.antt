use Rattle.std.proofs.Common.{◌≡◌, length, take}
use Rattle.std.specs.Prelude.{map}
use Rattle.std.specs.List.{range_with_len}
use Rattle.call_bytes.specs.Words.{word_at}
use Rattle.call_bytes.proofs.words.read_words.Given as goal

abbrev pub invariant-loop-k : goal.invariant-loop-k
invariant-loop-k l = record {
  tall : length l.words ≡ 256;
  read : take l.k l.words ≡ map (word_at l.b) (range_with_len 0 l.k);
}
