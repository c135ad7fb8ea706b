use Rattle.std.proofs.Common.{◌≡◌, ◌+◌, ◌*◌, ◌++◌, length, take}
use Rattle.std.specs.List.{flat_map}
use Rattle.call_bytes.specs.Colours.{colour_bytes}
use Rattle.call_bytes.proofs.colours.add_colours.Given as goal

abbrev pub invariant-loop-red : goal.invariant-loop-red
invariant-loop-red l = record {
  bytes : l.out.bytes ≡ l.initial.out.bytes ++ flat_map colour_bytes (take l.red-index l.p);
  room : l.out.room + 3 * l.red-index ≡ l.initial.out.room;
  whole : l.out.room + length l.out.bytes ≡ l.initial.out.room + length l.initial.out.bytes;
}
