use Rattle.session_run.proofs.Working.{AtWork}
use Rattle.session_run.proofs.worker.work.Given as goal

abbrev pub invariant-loop : goal.invariant-loop
invariant-loop g l = AtWork l.caller l.walk l.seat l.fn.pass.number l.pass
