use Rattle.std.proofs.Common.{false}
use Rattle.vt_hub.specs.Ready.{IsReady}
use Rattle.console_tests.proofs.tests.typing.press.Given as goal

abbrev pub invariant-loop-b : goal.invariant-loop-b
invariant-loop-b g l = IsReady l.seat false l.pass
