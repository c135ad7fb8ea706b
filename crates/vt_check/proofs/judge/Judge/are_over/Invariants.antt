use Rattle.std.proofs.Common.{◌≡◌, ℕ, ◌<◌, List, None}
use Rattle.session_order.specs.Calls.{next_by}
use Rattle.session_order.specs.Ends.{Setup}
use Rattle.vt_check.specs.Judging.{IsAfter}
use Rattle.vt_events.specs.declared.entry.Entry.{Entry}
use Rattle.vt_check.proofs.judge.Judge.are_over.Given as goal

abbrev pub invariant-loop-i : goal.invariant-loop-i
invariant-loop-i l =
    (o : Setup) (h : List Entry) → IsAfter o h l.self
    → (p : ℕ) → p < l.i → next_by o.programs p h ≡ None
