use Rattle.std.proofs.Common.{◌≡◌, ◌+◌, ◌*◌, ◌++◌, length, take}
use Rattle.std.specs.List.{flat_map}
use Rattle.call_bytes.specs.Pairs.{pair_bytes}
use Rattle.call_bytes.proofs.pairs.add_pairs.Given as goal

abbrev pub invariant-loop-pair : goal.invariant-loop-pair
invariant-loop-pair l = record {
  bytes : l.out.bytes ≡ l.initial.out.bytes ++ flat_map pair_bytes (take l.pair-index l.pairs);
  room : l.out.room + 12 * l.pair-index ≡ l.initial.out.room;
  whole : l.out.room + length l.out.bytes ≡ l.initial.out.room + length l.initial.out.bytes;
}
