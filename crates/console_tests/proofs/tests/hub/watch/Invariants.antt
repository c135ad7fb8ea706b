use Rattle.std.proofs.Common.{◌≡◌}
use Rattle.console_tests.proofs.tests.hub.watch.Given as goal

abbrev pub invariant-loop : goal.invariant-loop
invariant-loop g l = l.pass.hub ≡ l.seat
