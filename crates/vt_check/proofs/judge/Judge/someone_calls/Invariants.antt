use Rattle.std.proofs.Common.{ℕ, ◌<◌, List}
use Rattle.session_order.specs.Ends.{Setup}
use Rattle.vt_check.specs.Judging.{HasCall, IsAfter}
use Rattle.vt_events.specs.declared.entry.Entry.{Entry}
use Rattle.vt_check.proofs.judge.Judge.someone_calls.Given as goal

abbrev pub invariant-loop-i : goal.invariant-loop-i
invariant-loop-i l =
    (o : Setup) (h : List Entry) → IsAfter o h l.self
    → (caller : ℕ) → caller < l.i → ¬ HasCall o h caller l.charge
