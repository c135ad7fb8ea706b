use Rattle.std.proofs.Common.{◌≡◌, ◌+◌, ◌-◌}
use Rattle.std.specs.List.{find, range_with_len}
use Rattle.std.specs.Prelude.{not}
use Rattle.vt_procs.specs.Callers.{is_opened}
use Rattle.vt_world.proofs.world.World.first_unopened.Given as goal

abbrev pub invariant-loop-k : goal.invariant-loop-k
invariant-loop-k l =
    find (λ c. not (is_opened l.self.callers c)) (range_with_len (l.low + l.k) (l.len - l.k))
    ≡ find (λ c. not (is_opened l.self.callers c)) (range_with_len l.low l.len)
