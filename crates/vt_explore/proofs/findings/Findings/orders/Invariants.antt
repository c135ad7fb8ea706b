use Rattle.vt_explore.specs.Findings.{AreFoundFor}
use Rattle.vt_explore.proofs.findings.Findings.orders.Given as goal

abbrev pub invariant-loop-place : goal.invariant-loop-place
invariant-loop-place l = AreFoundFor l.self l.place l.orders
