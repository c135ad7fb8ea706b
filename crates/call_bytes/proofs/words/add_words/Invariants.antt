use Rattle.std.proofs.Common.{◌≡◌, ◌+◌, ◌*◌, ◌++◌, length, take}
use Rattle.std.specs.Int.{to_le_bytes, w16}
use Rattle.std.specs.List.{flat_map}
use Rattle.call_bytes.proofs.words.add_words.Given as goal

abbrev pub invariant-loop-word : goal.invariant-loop-word
invariant-loop-word l = record {
  bytes : l.out.bytes ≡ l.initial.out.bytes ++ flat_map (to_le_bytes w16) (take l.word-index l.words);
  room : l.out.room + 2 * l.word-index ≡ l.initial.out.room;
  whole : l.out.room + length l.out.bytes ≡ l.initial.out.room + length l.initial.out.bytes;
}
