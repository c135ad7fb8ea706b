use Rattle.std.proofs.Common.{◌≡◌, length, take}
use Rattle.std.specs.Prelude.{map}
use Rattle.std.specs.List.{range_with_len}
use Rattle.call_bytes.specs.Colours.{colour_at}
use Rattle.call_bytes.proofs.colours.read_colours.Given as goal

abbrev pub invariant-loop-n : goal.invariant-loop-n
invariant-loop-n l = record {
  tall : length l.palette ≡ 16;
  read : take l.n l.palette ≡ map (colour_at l.b) (range_with_len 0 l.n);
}
