-- A sum over consoles that grows console by console.
use Rattle.std.proofs.Common.{◌≡◌, ◌≤◌, ◌<◌, ℕ, suc, ◌+◌, ◌^◌, map, sym, ap, ◌∙◌, arith}
use Rattle.std.proofs.Math.Nat.{two-pow-succ}
use Rattle.std.proofs.lemmas.List.FromFn.{sum_by-map-range_with_len_more}
use Rattle.std.specs.List.{range_with_len}
use Rattle.std.specs.Prelude.{sum}

-- the next console's number is added
pub sum_more : (f : ℕ → ℕ) (k before part : ℕ) → before ≡ sum (map f (range_with_len 1 k))
    → part ≡ f (k + 1) → before + part ≡ sum (map f (range_with_len 1 (k + 1)))
sum_more f k before part so_far is =
    ap (λ n. n + part) so_far
    ∙ ap (λ n. sum (map f (range_with_len 1 k)) + n) is
    ∙ sym (sum_by-map-range_with_len_more (λ n. n) f 1 k (k + 1) (omega arith))

-- bits below a place, and the bit at it
pub bits_more : (k before part : ℕ) → before < 2 ^ (k + 1) → part ≤ 2 ^ (k + 1)
    → before + part < 2 ^ (k + 1 + 1)
bits_more k before part low bit =
    let next : 2 ^ (k + 1 + 1) ≡ 2 ^ (k + 1) + 2 ^ (k + 1) =
    ap (λ n. 2 ^ n) (let e : k + 1 + 1 ≡ suc (k + 1) = omega arith in e) ∙ two-pow-succ (k + 1) in
    omega (arith, next)
