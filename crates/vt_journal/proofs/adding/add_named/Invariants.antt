use Rattle.std.proofs.Common.{◌≡◌, ◌∷◌, ◌++◌, decimal, take, map}
use Rattle.vt_journal.specs.Text.{blank_before_each}
use Rattle.vt_journal.proofs.adding.add_named.Given as goal

abbrev pub invariant-loop-n : goal.invariant-loop-n
invariant-loop-n l =
    l.text.bytes ≡ l.fn.text.bytes ++ blank_before_each (l.name ∷ map decimal (take l.n-index l.numbers))
