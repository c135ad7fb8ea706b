use Rattle.std.proofs.Common.{◌≡◌, ◌+◌, ◌-◌}
use Rattle.std.specs.List.{find, range_with_len}
use Rattle.vt_switch.specs.Display.{is_allocated}
use Rattle.vt_world.proofs.world.World.lowest.Given as goal

abbrev pub invariant-loop-k : goal.invariant-loop-k
invariant-loop-k l =
    find (is_allocated l.self.display) (range_with_len (l.low + l.k) (l.len - l.k))
    ≡ find (is_allocated l.self.display) (range_with_len l.low l.len)
