use Rattle.std.proofs.Common.{◌≡◌, length, map, take}
use Rattle.console_tests.proofs.tests.race.race_asking.Given as goal

abbrev pub invariant-loop-table : goal.invariant-loop-table
invariant-loop-table g l =
    (map (λ h. h.1) l.handlers.items ≡ take l.table-index l.acts) × (length l.handlers.items ≡ l.table-index)
