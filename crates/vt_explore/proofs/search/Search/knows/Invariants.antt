use Rattle.vt_explore.specs.Held.{IsPool}
use Rattle.session_order.specs.Sessions.{setup_of}
use Rattle.vt_explore.proofs.search.Search.knows.Given as goal

abbrev pub invariant-loop-step : goal.invariant-loop-step
invariant-loop-step l = IsPool (setup_of l.s) l.pool
