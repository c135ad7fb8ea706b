-- Bits of sets of signals.
use Rattle.std.proofs.Common.{◌≡◌, ℕ, zero, suc, ◌+◌, ◌*◌, ◌-◌, ◌^◌, ◌/◌, ◌%◌, ◌<◌, ◌≤◌, true, cond, arith, sym, ap, subst, ◌∙◌, Option, pos_of_ne-zero}
use Rattle.std.proofs.Math.Nat.{lt_of_not-le}
use Rattle.std.proofs.lemmas.Nat.{pow_pos, shr-shr, shr_le}
use Rattle.std.proofs.lemmas.Nat.Bits.{and_pow, bit_at-lt, bit_at-zero, bit_at_above, bit_at_or, bit_at-pow_same, bit_at-pow_other, bit_at-trailing_zeros}
use Rattle.std.specs.Int.{bit_at, trailing_zeros, w64}
use Rattle.std.specs.Int.Bits.{or_add_and}
use Rattle.std.specs.Int.RustNames.{bit_and, bit_or}
use Rattle.std.specs.Prelude.{◌==◌, ◌≢◌, max, IfSome, IfNone}
use Rattle.vt_base.proofs.Numbers.{inside}
use Rattle.vt_base.specs.Range.{in_range}
use Rattle.vt_base.specs.Signals.{HasNoneFrom, IsFirstFrom, WithAddsOne, has_signal}

-- the bit is tested by a mask
test_of : (bit mask : ℕ) → bit < 2 → 0 < mask → (bit * mask == mask) ≡ (bit == 1)
test_of zero mask low some = grind (arith, some)
test_of (suc zero) mask low some = grind arith
test_of (suc (suc n)) mask low some = absurd (let z : ⊥ = omega (arith, low) in z)

pub has_by_mask : (set k : ℕ) → (bit_and set (2 ^ k) == 2 ^ k) ≡ (bit_at set k == 1)
has_by_mask set k =
    ap (λ n. n == 2 ^ k) (and_pow set k)
    ∙ test_of (bit_at set k) (2 ^ k) (bit_at-lt set k) (pow_pos k)

-- a bit is set by a mask
sum_of : (set mask bit or : ℕ) → bit < 2 → or + bit * mask ≡ set + mask
    → or ≡ cond (bit == 1) set (set + mask)
sum_of set mask zero or low sum = omega (arith, sum)
sum_of set mask (suc zero) or low sum = omega (arith, sum)
sum_of set mask (suc (suc n)) or low sum = absurd (let z : ⊥ = omega (arith, low) in z)

pub with_by_mask : (set k : ℕ)
    → bit_or set (2 ^ k) ≡ cond (bit_at set k == 1) set (set + 2 ^ k)
with_by_mask set k =
    sum_of set (2 ^ k) (bit_at set k) (bit_or set (2 ^ k)) (bit_at-lt set k)
    (ap (λ n. bit_or set (2 ^ k) + n) (sym (and_pow set k)) ∙ or_add_and set (2 ^ k))

bit_here : (set k : ℕ) → (bit_at (bit_or set (2 ^ k)) k == 1) ≡ true
bit_here set k =
    let low : bit_at set k < 2 = bit_at-lt set k in
    let one : max (bit_at set k) 1 ≡ 1 = omega (arith, low) in
    ap (λ n. n == 1)
    (bit_at_or set (2 ^ k) k ∙ ap (max (bit_at set k)) (bit_at-pow_same k) ∙ one)

bit_there : (set k i : ℕ) → i ≢ k → (bit_at (bit_or set (2 ^ k)) i == 1) ≡ (bit_at set i == 1)
bit_there set k i apart =
    let same : max (bit_at set i) 0 ≡ bit_at set i = omega arith in
    ap (λ n. n == 1)
    (bit_at_or set (2 ^ k) i ∙ ap (max (bit_at set i)) (bit_at-pow_other k i apart) ∙ same)

pub with_adds_one : WithAddsOne
with_adds_one set s some =
    let k : ℕ = s - 1 in
    let made = with_by_mask set k in
    record {
      here = ap (λ n. bit_at n k == 1) (sym made) ∙ bit_here set k;
      others = λ t from apart.
          ap (λ n. bit_at n (t - 1) == 1) (sym made)
          ∙ bit_there set k (t - 1) (λ same. apart (omega (arith, same, some, from)));
    }

-- the bits of a number without its j lowest
bit_at_shr : (n j k : ℕ) → bit_at (n / 2 ^ j) k ≡ bit_at n (j + k)
bit_at_shr n j k = ap (λ m. m % 2) (shr-shr n j k)

-- a signal of a set is a bit of what is left without those before it
signal_left : (set n k : ℕ) → 1 ≤ n → has_signal set (n + k) ≡ (bit_at (set / 2 ^ (n - 1)) k == 1)
signal_left set n k some =
    let place : n + k - 1 ≡ n - 1 + k = omega (arith, some) in
    ap (λ m. m == 1) (ap (bit_at set) place ∙ sym (bit_at_shr set (n - 1) k))

pub none_from : (set n : ℕ) → 1 ≤ n → set / 2 ^ (n - 1) ≡ 0 → HasNoneFrom set n
none_from set n some empty t from to =
    let place : t ≡ n + (t - n) = omega (arith, from) in
    ap (has_signal set) place
    ∙ signal_left set n (t - n) some
    ∙ ap (λ m. m == 1) (ap (λ left. bit_at left (t - n)) empty ∙ bit_at-zero (t - n))

-- the lowest bit that is left is that of the first signal
pub first_from : (set n : ℕ) → 1 ≤ n → set < 2 ^ 64 → 0 < set / 2 ^ (n - 1)
    → (n + trailing_zeros w64 (set / 2 ^ (n - 1)) ≤ 64)
    × IsFirstFrom set n (n + trailing_zeros w64 (set / 2 ^ (n - 1)))
first_from set n some fits any = (within, first)
  where
    left : ℕ
    left = set / 2 ^ (n - 1)

    zeros : ℕ
    zeros = trailing_zeros w64 left

    lowest : (zeros < 64) × (bit_at left zeros ≡ 1) × ((i : ℕ) → i < zeros → bit_at left i ≡ 0)
    lowest =
        let less : left < 2 ^ 64 = omega (arith, fits, shr_le set (n - 1)) in
        bit_at-trailing_zeros w64 left any less

    within : n + zeros ≤ 64
    within =
        let below : n - 1 + zeros < 64 = lt_of_not-le (λ above.
        let none : bit_at set (n - 1 + zeros) ≡ 0 =
        bit_at_above set 64 (n - 1 + zeros) fits above in
        let one : bit_at set (n - 1 + zeros) ≡ 1 =
        sym (bit_at_shr set (n - 1) zeros) ∙ lowest.1 in
        let clash : ⊥ = omega (arith, none, one) in
        clash) in
        omega (arith, below)

    first : IsFirstFrom set n (n + zeros)
    first = record {
      from = omega arith;
      here = signal_left set n zeros some ∙ ap (λ m. m == 1) lowest.1;
      none_before = λ t from before.
          let place : t ≡ n + (t - n) = omega (arith, from) in
          let below : t - n < zeros = omega (arith, from, before) in
          ap (has_signal set) place
          ∙ signal_left set n (t - n) some
          ∙ ap (λ m. m == 1) (lowest.2 (t - n) below);
    }

-- so it is the answer
pub first_answer : (set n bits : ℕ) (answer : Option ℕ) → bits ≡ set → 1 ≤ n → bits < 2 ^ 64
    → ¬ (bits / 2 ^ (n - 1) ≡ 0)
    → answer ≡ in_range 1 64 (n + trailing_zeros w64 (bits / 2 ^ (n - 1)))
    → IfSome answer (IsFirstFrom set n) × IfNone answer (HasNoneFrom set n)
first_answer set n bits answer same some fits any is =
    let found = first_from bits n some fits (pos_of_ne-zero any) in
    let m : ℕ = n + trailing_zeros w64 (bits / 2 ^ (n - 1)) in
    let low : 1 ≤ m = omega (arith, some) in
    subst (λ set. IfSome answer (IsFirstFrom set n) × IfNone answer (HasNoneFrom set n)) same
    (subst
    (λ o. IfSome o (IsFirstFrom bits n) × IfNone o (HasNoneFrom bits n))
    (sym (is ∙ inside 1 64 m low found.0))
    (found.1, tt))
