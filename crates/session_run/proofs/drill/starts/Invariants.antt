use Rattle.std.proofs.Common.{◌≡◌, map, true}
use Rattle.std.specs.List.{range_with_len}
use Rattle.session_run.proofs.drill.starts.Given as goal

abbrev pub invariant-loop-i : goal.invariant-loop-i
invariant-loop-i l =
    l.starts ≡ map (λ p. record { home = p; privileged = true }) (range_with_len 1 l.i)
