use Rattle.std.proofs.Common.{◌≡◌, ◌++◌, drop}
use Rattle.std.specs.List.{flat_map}
use Rattle.watch.specs.Facts.{wait_text_at, waits_text}
use Rattle.watch.proofs.facts.add_waits.Given as goal

abbrev pub invariant-loop-p : goal.invariant-loop-p
invariant-loop-p l =
    l.text.bytes ++ flat_map (wait_text_at l.form l.before l.after) (drop l.p-index l.all)
    ≡ l.fn.text.bytes ++ waits_text l.form l.before l.after
