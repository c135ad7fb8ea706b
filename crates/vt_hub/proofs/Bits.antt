-- Sets of processes as bits.
use Rattle.std.proofs.Common.{◌≡◌, ◌≢◌, ℕ, zero, suc, ◌+◌, ◌-◌, ◌*◌, ◌^◌, ◌%◌, ◌<◌, ◌≤◌, ◌==◌, ◌&&◌, ◌||◌, Bool, not, true, false, cond, get_or, max, min, nat_le, refl, sym, ap, ◌∙◌, arith, ⊎_elim}
use Rattle.std.proofs.lemmas.Bool.{cases_eq, eq-eqb, le-leb, ne_eqb}
use Rattle.std.proofs.lemmas.Bool.Decides.{nat_tests}
use Rattle.std.proofs.lemmas.Nat.{pow_pos}
use Rattle.std.proofs.lemmas.Nat.Bits.{and_pow, bit_at-lt, bit_at-pow_other, bit_at-pow_same, bit_at_and, bit_at_not, bit_at_or}
use Rattle.std.specs.List.{range_with_len}
use Rattle.std.specs.Int.{bit_at, bit_not, w64}
use Rattle.std.specs.Int.RustNames.{bit_and, bit_or}

-- a bit is tested by a mask
tested : (bit mask : ℕ) → bit < 2 → 0 < mask → not (bit * mask == 0) ≡ (bit == 1)
tested zero mask low some = grind (arith, some)
tested (suc zero) mask low some = grind (arith, some)
tested (suc (suc n)) mask low some = absurd (let z : ⊥ = omega (arith, low) in z)

pub has_by_mask : (set k : ℕ) → not (bit_and set (2 ^ k) == 0) ≡ (bit_at set k == 1)
has_by_mask set k =
    ap (λ n. not (n == 0)) (and_pow set k) ∙ tested (bit_at set k) (2 ^ k) (bit_at-lt set k) (pow_pos k)

-- a bit more
pub with_mask : (set k i : ℕ) → (bit_at (bit_or set (2 ^ k)) i == 1) ≡ (i == k || (bit_at set i == 1))
with_mask set k i = ⊎_elim
    (λ (same : i ≡ k).
    let low = bit_at-lt set i in
    let one : bit_at (2 ^ k) i ≡ 1 = ap (bit_at (2 ^ k)) same ∙ bit_at-pow_same k in
    let most : max (bit_at set i) 1 ≡ 1 = omega (arith, low) in
    ap (λ n. n == 1) (bit_at_or set (2 ^ k) i ∙ ap (max (bit_at set i)) one ∙ most)
    ∙ sym (ap (λ b. b || (bit_at set i == 1)) (eq-eqb i k same)))
    (λ (other : i ≢ k).
    let most : max (bit_at set i) 0 ≡ bit_at set i = omega arith in
    ap (λ n. n == 1) (bit_at_or set (2 ^ k) i ∙ ap (max (bit_at set i)) (bit_at-pow_other k i other) ∙ most)
    ∙ sym (ap (λ b. b || (bit_at set i == 1)) (ne_eqb i k other)))
    (cases_eq i k)

-- the bits of one set that another one hasn't
both_bits : (a b : ℕ) → a < 2 → b < 2 → (min a (1 - b) == 1) ≡ ((a == 1) && not (b == 1))
both_bits zero b low high = let none : min 0 (1 - b) ≡ 0 = omega arith in ap (λ n. n == 1) none
both_bits (suc zero) zero low high = refl
both_bits (suc zero) (suc zero) low high = refl
both_bits (suc zero) (suc (suc n)) low high = absurd (let z : ⊥ = omega (arith, high) in z)
both_bits (suc (suc n)) b low high = absurd (let z : ⊥ = omega (arith, low) in z)

pub without_bits : (set those i : ℕ) → those < 2 ^ 64 → i < 64
    → (bit_at (bit_and set (bit_not w64 those)) i == 1) ≡ ((bit_at set i == 1) && not (bit_at those i == 1))
without_bits set those i fits low =
    ap (λ n. n == 1) (bit_at_and set (bit_not w64 those) i ∙ ap (min (bit_at set i)) (bit_at_not w64 those i fits low))
    ∙ both_bits (bit_at set i) (bit_at those i) (bit_at-lt set i) (bit_at-lt those i)

-- the bits of two processes differ
pub one_process : (p q : ℕ) → 1 ≤ p → p ≤ 64 → 1 ≤ q → q ≤ 64 → p % 64 ≡ q % 64 → p ≡ q
one_process p q a b c d same = omega (arith, same)

-- one process more is looked at: process q, after those below it
same_case : (a e h : Bool)
    → cond (h && a) (true || (a && (e || (h && false)))) (a && (e || (h && false))) ≡ (a && (e || (h && true)))
same_case true true true = refl
same_case true true false = refl
same_case true false true = refl
same_case true false false = refl
same_case false true true = refl
same_case false true false = refl
same_case false false true = refl
same_case false false false = refl

other_case : (b x : Bool) → cond b (false || x) x ≡ x
other_case true x = refl
other_case false x = refl

-- the set after the processes up to number n: those with open tickets that are in `has`, and the caller
abbrev pub Looked : (ℕ → Bool) → (ℕ → Bool) → ℕ → (ℕ → Bool) → ℕ → Type 0
Looked has waits caller set n =
    (p : ℕ) → (1 ≤ p) × (p ≤ 64) → set p ≡ (waits p && (p == caller || (has p && nat_le p n)))

or-none : (a h l : Bool) → l ≡ false → (a || (h && l)) ≡ a
or-none true h l none = refl
or-none false true l none = none
or-none false false l none = refl

or-all : (a h l : Bool) → l ≡ true → (a || (h && l)) ≡ (a || h)
or-all true h l all = refl
or-all false true l all = all
or-all false false l all = refl

-- before the first process
pub look_first : (has waits : ℕ → Bool) (caller : ℕ) (set : ℕ → Bool)
    → ((p : ℕ) → (1 ≤ p) × (p ≤ 64) → set p ≡ (waits p && p == caller)) → Looked has waits caller set 0
look_first has waits caller set is p process =
    let none : nat_le p 0 ≡ false = grind (arith, nat_tests, process.0) in
    is p process ∙ ap (λ b. waits p && b) (sym (or-none (p == caller) (has p) (nat_le p 0) none))

-- 0 is no process
pub no_process : (p : ℕ) → (1 ≤ p) × (p ≤ 64) → (p == 0) ≡ false
no_process p process = grind (arith, nat_tests, process.0)

-- after the last one
pub look_all : (has waits : ℕ → Bool) (caller : ℕ) (set : ℕ → Bool) (n : ℕ) → 64 ≤ n → Looked has waits caller set n
    → (p : ℕ) → (1 ≤ p) × (p ≤ 64) → set p ≡ (waits p && (p == caller || has p))
look_all has waits caller set n all looked p process =
    let past : nat_le p n ≡ true = le-leb p n (omega (arith, all, process.1)) in
    looked p process ∙ ap (λ b. waits p && b) (or-all (p == caller) (has p) (nat_le p n) past)

-- if nobody is in the set
pub look_none : (has waits : ℕ → Bool) (caller : ℕ) (set : ℕ → Bool) → ((p : ℕ) → has p ≡ false)
    → ((p : ℕ) → (1 ≤ p) × (p ≤ 64) → set p ≡ (waits p && p == caller))
    → (p : ℕ) → (1 ≤ p) × (p ≤ 64) → set p ≡ (waits p && (p == caller || has p))
look_none has waits caller set none is p process =
    is p process ∙ ap (λ b. waits p && b) (sym (ap (λ b. p == caller || b) (none p) ∙ or-false (p == caller)))
  where
    or-false : (a : Bool) → (a || false) ≡ a
    or-false true = refl
    or-false false = refl

-- a place of a range
pub range_at : (a n i d : ℕ) → i < n → get_or (range_with_len a n) i d ≡ a + i
range_at a zero i d less = absurd (let z : ⊥ = omega (arith, less) in z)
range_at a (suc n) zero d less = omega arith
range_at a (suc n) (suc i) d less =
    range_at (a + 1) n i d (omega (arith, less)) ∙ omega arith

-- the caller alone
pub alone_is : (waits : ℕ → Bool) (caller : ℕ) (set : ℕ → Bool) → (1 ≤ caller) × (caller ≤ 64) → waits caller ≡ true
    → ((p : ℕ) → set p ≡ (p % 64 == caller % 64 || false))
    → (p : ℕ) → (1 ≤ p) × (p ≤ 64) → set p ≡ (waits p && p == caller)
alone_is waits caller set process open_is is p other = is p ∙ ⊎_elim
    (λ (same : p ≡ caller).
    (λ i. eq-eqb (p % 64) (caller % 64) (ap (λ n. n % 64) same) i || false)
    ∙ sym ((λ i. (ap waits same ∙ open_is) i && eq-eqb p caller same i)))
    (λ (apart : p ≢ caller).
    (λ i. ne_eqb (p % 64) (caller % 64)
    (λ same. apart (one_process p caller other.0 other.1 process.0 process.1 same)) i || false)
    ∙ sym (and-none (waits p) (p == caller) (ne_eqb p caller apart)))
    (cases_eq p caller)
  where
    and-none : (a b : Bool) → b ≡ false → (a && b) ≡ false
    and-none true b none = none
    and-none false b none = refl

module _ (has waits : ℕ → Bool) (caller i : ℕ) (within : i < 64) where
  pub look_on : (old new : ℕ → Bool) → Looked has waits caller old i
      → ((p : ℕ) → new p ≡ cond (has (i + 1) && waits (i + 1)) (p % 64 == (i + 1) % 64 || old p) (old p))
      → Looked has waits caller new (i + 1)
  look_on old new so_far step p process = step p ∙ ⊎_elim own other (cases_eq p (i + 1))
    where
      own : p ≡ i + 1
          → cond (has (i + 1) && waits (i + 1)) (p % 64 == (i + 1) % 64 || old p) (old p)
          ≡ (waits p && (p == caller || (has p && nat_le p (i + 1))))
      own same =
          let bit : (p % 64 == (i + 1) % 64) ≡ true = eq-eqb (p % 64) ((i + 1) % 64) (ap (λ n. n % 64) same) in
          let before : nat_le p i ≡ false = grind (arith, nat_tests, same) in
          let now : nat_le p (i + 1) ≡ true = grind (arith, nat_tests, same) in
          let old_is : old p ≡ (waits p && (p == caller || (has p && false))) =
          so_far p process ∙ ap (λ b. waits p && (p == caller || (has p && b))) before in
          ap (λ n. cond (has n && waits n) (p % 64 == (i + 1) % 64 || old p) (old p)) (sym same)
          ∙ ap (λ b. cond (has p && waits p) (b || old p) (old p)) bit
          ∙ ap (λ x. cond (has p && waits p) (true || x) x) old_is
          ∙ same_case (waits p) (p == caller) (has p)
          ∙ ap (λ b. waits p && (p == caller || (has p && b))) (sym now)

      other : p ≢ i + 1
          → cond (has (i + 1) && waits (i + 1)) (p % 64 == (i + 1) % 64 || old p) (old p)
          ≡ (waits p && (p == caller || (has p && nat_le p (i + 1))))
      other apart =
          let bit : (p % 64 == (i + 1) % 64) ≡ false =
          ne_eqb (p % 64) ((i + 1) % 64)
          (λ same. apart (one_process p (i + 1) process.0 process.1 (omega arith) (omega (arith, within)) same)) in
          let stays : nat_le p i ≡ nat_le p (i + 1) = le_other p i apart in
          ap (λ b. cond (has (i + 1) && waits (i + 1)) (b || old p) (old p)) bit
          ∙ other_case (has (i + 1) && waits (i + 1)) (old p)
          ∙ so_far p process
          ∙ ap (λ b. waits p && (p == caller || (has p && b))) stays
        where
          le_other : (p i : ℕ) → p ≢ i + 1 → nat_le p i ≡ nat_le p (i + 1)
          le_other p i apart = grind (arith, nat_tests, apart)
