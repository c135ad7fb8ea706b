use Rattle.std.proofs.Common.{ℕ, ◌+◌, ◌<◌, ◌≤◌, length, map}
use Rattle.vt_explore.specs.Alike.{Extends}
use Rattle.vt_explore.specs.Findings.{AddsFound, IsTried}
use Rattle.vt_explore.specs.Held.{IsPool}
use Rattle.vt_explore.specs.Searches.{AreSorted}
use Rattle.session_order.specs.Orders.{history_of}
use Rattle.session_order.specs.Sessions.{setup_of}
use Rattle.vt_explore.proofs.search.Search.expand.Given as goal

-- the calls of the callers below n are tried
abbrev pub invariant-loop-n : goal.invariant-loop-n
invariant-loop-n g l = record {
  pool : IsPool (setup_of l.s) l.pool;
  grows : Extends l.fn.self l.self;
  sorted : AreSorted (setup_of l.s) l.self (length (history_of (setup_of l.s) l.base.order) + 1);
  found :
      AddsFound (map g.Q.Question.wants l.questions) (setup_of l.s) l.base.order l.fn.findings l.findings;
  tried :
      (p : ℕ) → p < l.n
      → IsTried (map g.Q.Question.wants l.questions) l.findings (setup_of l.s) l.self (history_of (setup_of l.s) l.base.order) p;
  few : length l.self ≤ l.limit;
}
