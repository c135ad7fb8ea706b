use Rattle.std.proofs.Common.{◌≡◌, ℕ, ◌+◌, ◌≤◌, List, [], length, map, Some}
use Rattle.std.specs.Prelude.{slice_get}
use Rattle.vt_explore.specs.Alike.{HasLike}
use Rattle.vt_explore.specs.Findings.{AreFirst, AreTried}
use Rattle.vt_explore.specs.Held.{IsPool}
use Rattle.vt_explore.specs.Searches.{AreSorted}
use Rattle.session_order.specs.Orders.{history_of}
use Rattle.session_order.specs.Sessions.{setup_of}
use Rattle.vt_explore.proofs.exploring.go_through.Given as goal

-- the start is known, and each known order before `next` was tried
abbrev pub invariant-loop-next : goal.invariant-loop-next
invariant-loop-next g l = record {
  pool : IsPool (setup_of l.s) l.pool;
  start : HasLike (setup_of l.s) l.search [];
  tried : AreTried (map g.Q.Question.wants l.questions) l.findings (setup_of l.s) l.search l.next;
  sorted :
      (last : List ℕ) → slice_get l.search l.next ≡ Some last
      → AreSorted (setup_of l.s) l.search (length (history_of (setup_of l.s) last) + 1);
  first : AreFirst (map g.Q.Question.wants l.questions) (setup_of l.s) l.findings;
  few : length l.search ≤ l.limit;
}
