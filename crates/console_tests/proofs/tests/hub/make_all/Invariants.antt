use Rattle.vt_hub.specs.Ready.{IsReady}
use Rattle.console_tests.proofs.tests.hub.make_all.Given as goal

abbrev pub invariant-loop-p : goal.invariant-loop-p
invariant-loop-p g l = IsReady l.seat l.one_waits l.one × IsReady l.seat l.two_waits l.two
