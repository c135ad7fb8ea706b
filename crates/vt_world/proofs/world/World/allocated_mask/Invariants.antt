use Rattle.std.proofs.Common.{◌≡◌, ◌<◌, ◌+◌, ◌^◌}
use Rattle.std.specs.List.{range_with_len}
use Rattle.std.specs.Prelude.{map, sum, if◌then◌else◌}
use Rattle.vt_switch.specs.Display.{is_allocated}
use Rattle.vt_world.proofs.world.World.allocated_mask.Given as goal

abbrev pub invariant-loop-k : goal.invariant-loop-k
invariant-loop-k l = record {
  sum : l.mask ≡ sum (map (λ n. if is_allocated l.self.display n then 2 ^ n else 0) (range_with_len 1 l.k));
  bound : l.mask < 2 ^ (l.k + 1);
}
