-- Lists of rising numbers, place by place.
use Rattle.std.proofs.Common.{◌≡◌, ℕ, ◌+◌, ◌<◌, ◌≤◌, Some, List, length, get_or, sym, ◌∙◌, arith}
use Rattle.std.proofs.lemmas.List.{ext_get_or}
use Rattle.std.proofs.lemmas.List.FromFn.{length-range_with_len, get_or-range_with_len}
use Rattle.std.specs.List.{range_with_len}
use Rattle.vt_base.specs.Range.{in_range}

-- a list that has the number a + k at each place k
pub rising : (a n : ℕ) (xs : List ℕ) → length xs ≡ n → ((k : ℕ) → k < n → get_or xs k 0 ≡ a + k)
    → xs ≡ range_with_len a n
rising a n xs long at =
    ext_get_or 0 xs (range_with_len a n) (long ∙ sym (length-range_with_len a n))
    (λ k within.
    let below : k < n = omega (arith, within, long) in
    at k below ∙ sym (get_or-range_with_len a n k 0 below))

-- a number of the range is in it
pub inside : (low high n : ℕ) → low ≤ n → n ≤ high → in_range low high n ≡ Some n
inside low high n from to = grind (arith, from, to)
