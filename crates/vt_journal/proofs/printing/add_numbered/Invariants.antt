use Rattle.std.proofs.Common.{◌≡◌, ◌++◌, decimal, take, map}
use Rattle.vt_journal.specs.Text.{blank_before_each}
use Rattle.vt_journal.proofs.printing.add_numbered.Given as goal

abbrev pub invariant-loop-n : goal.invariant-loop-n
invariant-loop-n l =
    l.text.bytes ≡ (l.fn.text.bytes ++ l.name) ++ blank_before_each (map decimal (take l.n-index l.numbers))
