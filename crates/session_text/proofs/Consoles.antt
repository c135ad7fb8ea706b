-- The consoles of a set: the lowest one from a number on, and a set with one more.
use Rattle.std.proofs.Common.{◌≡◌, ◌≢◌, ℕ, ◌+◌, ◌-◌, ◌^◌, ◌≤◌, ◌==◌, suc, max, true, false, Bool, cond, Some, None, find, sym, ap, ◌∙◌, arith}
use Rattle.std.proofs.lemmas.Nat.Bits.{bit_at_or, bit_at-pow_other}
use Rattle.std.specs.Int.{bit_at}
use Rattle.std.specs.Int.RustNames.{bit_or}
use Rattle.std.specs.List.{range_with_len}
use Rattle.vt_base.specs.ConsoleSet.{is_among}
use Rattle.session_text.specs.Openings.{lowest_from}

-- adding a console from 1 on doesn't change whether console 0 is in the set
pub with_console_zero : (set n : ℕ) → 1 ≤ n → is_among (bit_or set (2 ^ n)) 0 ≡ is_among set 0
with_console_zero set n some =
    let apart : 0 ≢ n = λ same. absurd (omega (arith, same, some)) in
    let same : max (bit_at set 0) 0 ≡ bit_at set 0 = omega arith in
    ap (λ b. b == 1)
    (bit_at_or set (2 ^ n) 0 ∙ ap (max (bit_at set 0)) (bit_at-pow_other n 0 apart) ∙ same)

-- the lowest console from n on is n, or the lowest from the next one on
pub lowest_from_next : (set n : ℕ) → n ≤ 63
    → lowest_from set n ≡ cond (is_among set n) (Some n) (lowest_from set (n + 1))
unfolding lowest_from
lowest_from_next set n low =
    let more : 64 - n ≡ suc (64 - (n + 1)) = omega arith in
    ap (λ k. find (is_among set) (range_with_len n k)) more

pub lowest_from_end : (set n : ℕ) → 64 ≤ n → lowest_from set n ≡ None
unfolding lowest_from
lowest_from_end set n high =
    let none : 64 - n ≡ 0 = omega arith in
    ap (λ k. find (is_among set) (range_with_len n k)) none

pub lowest_from_here : (set n : ℕ) → n ≤ 63 → is_among set n ≡ true → lowest_from set n ≡ Some n
lowest_from_here set n low is =
    lowest_from_next set n low ∙ ap (λ (b : Bool). cond b (Some n) (lowest_from set (n + 1))) is

pub lowest_from_there : (set n : ℕ) → n ≤ 63 → is_among set n ≡ false
    → lowest_from set (n + 1) ≡ lowest_from set n
lowest_from_there set n low is =
    sym (lowest_from_next set n low ∙ ap (λ (b : Bool). cond b (Some n) (lowest_from set (n + 1))) is)
