use Rattle.std.proofs.Common.{◌≡◌, ◌-◌, map}
use Rattle.std.specs.List.{find, range_with_len}
use Rattle.vt_switch.specs.Display.{is_allocated}
use Rattle.vt_world.specs.Wanted.{numbers_down_from}
use Rattle.vt_world.proofs.world.World.highest.Given as goal

abbrev pub invariant-loop-k : goal.invariant-loop-k
invariant-loop-k l =
    find (is_allocated l.self.display) (map (λ j. l.high - j) (range_with_len l.k (l.len - l.k)))
    ≡ find (is_allocated l.self.display) (numbers_down_from l.high l.len)
