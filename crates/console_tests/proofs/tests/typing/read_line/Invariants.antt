use Rattle.std.proofs.Common.{false}
use Rattle.vt_hub.specs.Ready.{IsReady}
use Rattle.console_tests.proofs.tests.typing.read_line.Given as goal

abbrev pub invariant-loop : goal.invariant-loop
invariant-loop g l = IsReady l.seat false l.pass
