use Rattle.std.proofs.Common.{◌≡◌, ◌≤◌, decimal, take}
use Rattle.vt_journal.proofs.numbers.short_number.Given as goal

abbrev pub invariant-loop-i : goal.invariant-loop-i
invariant-loop-i l = (decimal l.n ≡ take l.i l.word) × (1 ≤ l.n)
