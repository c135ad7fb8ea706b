use Rattle.std.proofs.Common.{◌≡◌, ◌++◌, drop}
use Rattle.watch.specs.Facts.{trace_text}
use Rattle.watch.proofs.facts.trace_text.Given as goal

abbrev pub invariant-loop-mark : goal.invariant-loop-mark
invariant-loop-mark l =
    l.text.bytes ++ trace_text l.form l.caller l.cert l.count (drop l.mark-index l.marks)
    ≡ trace_text l.form l.caller l.cert l.switches l.marks
