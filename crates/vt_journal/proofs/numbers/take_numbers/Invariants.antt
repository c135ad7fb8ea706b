use Rattle.std.proofs.Common.{◌≡◌, ℕ, ◌<◌, ◌≤◌, ◌++◌, decimal, get_or, length, map}
use Rattle.vt_journal.proofs.numbers.take_numbers.Given as goal

abbrev pub invariant-loop-i : goal.invariant-loop-i
invariant-loop-i l = record {
  words : l.initial.words ≡ map decimal l.numbers.items ++ l.words;
  many : length l.numbers.items ≡ l.i;
  each : (k : ℕ) → k < l.i → get_or l.numbers.items k 0 ≤ get_or l.mosts k 0;
}
