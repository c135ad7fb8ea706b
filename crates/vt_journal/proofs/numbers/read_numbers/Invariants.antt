use Rattle.std.proofs.Common.{◌≡◌, ◌<◌, ◌^◌, ◌++◌, decimal, length, map}
use Rattle.std.specs.List.{All}
use Rattle.vt_journal.proofs.numbers.read_numbers.Given as goal

abbrev pub invariant-loop-i : goal.invariant-loop-i
invariant-loop-i l =
    (l.initial.words ≡ map decimal l.numbers.items ++ l.words)
    × (length l.numbers.items ≡ l.i)
    × All (λ n. n < 2 ^ 16) l.numbers.items
