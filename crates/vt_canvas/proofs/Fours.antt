-- Plain codes, four at once.
use Rattle.std.proofs.Common.{◌≡◌, ℕ, zero, suc, ◌+◌, ◌-◌, ◌≤◌, ◌<◌, ⊎_elim, true, List, length, drop, get_or, subst, ap, ◌∙◌, arith}
use Rattle.std.specs.List.{prefix_len}
use Rattle.std.proofs.lemmas.Bool.{cases_lt, cond-true}
use Rattle.std.proofs.lemmas.List.{drop_more, length-drop}
use Rattle.std.proofs.lemmas.List.Sums.{prefix_len-le-length}
use Rattle.vt_cells.specs.Width.{is_plain}

goes : (codes : List ℕ) (i : ℕ) → i < length codes → is_plain (get_or codes i 0) ≡ true
    → prefix_len is_plain (drop i codes) ≡ 1 + prefix_len is_plain (drop (i + 1) codes)
goes codes i within passes = ap (prefix_len is_plain) (drop_more codes i 0 within) ∙ cond-true _ _ _ passes

-- so many from a place on
pub plain_run : (codes : List ℕ) (n from : ℕ) → from + n ≤ length codes
    → ((k : ℕ) → from ≤ k → k < from + n → is_plain (get_or codes k 0) ≡ true)
    → prefix_len is_plain (drop from codes) ≡ n + prefix_len is_plain (drop (from + n) codes)
plain_run codes zero from within each =
    let here : from ≡ from + 0 = omega arith in
    let same = ap (λ (k : ℕ). prefix_len is_plain (drop k codes)) here in
    omega (arith, same)
plain_run codes (suc n) from within each =
    let one = goes codes from (omega arith) (each from (omega arith) (omega arith)) in
    let others = plain_run codes n (from + 1) (omega arith) (λ k low high. each k (omega arith) (omega arith)) in
    let there : from + 1 + n ≡ from + suc n = omega arith in
    let same : prefix_len is_plain (drop (from + 1 + n) codes) ≡ prefix_len is_plain (drop (from + suc n) codes) =
    ap (λ (k : ℕ). prefix_len is_plain (drop k codes)) there in
    omega (arith, one, others, same)

-- all from a place on, where the last four are
pub plain_end : (codes : List ℕ) (at : ℕ) → at ≤ length codes → length codes < at + 4 → 4 ≤ length codes
    → ((k : ℕ) → length codes - 4 ≤ k → k < length codes - 4 + 4 → is_plain (get_or codes k 0) ≡ true)
    → length codes ≡ at + prefix_len is_plain (drop at codes)
plain_end codes at within last some each =
    let n : ℕ = length codes - at in
    let run = plain_run codes n at (omega arith) (λ k low high. each k (omega arith) (omega arith)) in
    let left = prefix_len-le-length is_plain (drop (at + n) codes) in
    omega (arith, run, left, length-drop (at + n) codes)

pub four_each : (codes : List ℕ) (at : ℕ) → is_plain (get_or codes at 0) ≡ true
    → is_plain (get_or codes (at + 1) 0) ≡ true → is_plain (get_or codes (at + 2) 0) ≡ true
    → is_plain (get_or codes (at + 3) 0) ≡ true
    → (k : ℕ) → at ≤ k → k < at + 4 → is_plain (get_or codes k 0) ≡ true
four_each codes at a b c d k low high =
    ⊎_elim (λ (first : k < at + 1). is at (omega arith) a)
    (λ (past : at + 1 ≤ k). ⊎_elim (λ (second : k < at + 2). is (at + 1) (omega arith) b)
    (λ (further : at + 2 ≤ k). ⊎_elim (λ (third : k < at + 3). is (at + 2) (omega arith) c)
    (λ (furthest : at + 3 ≤ k). is (at + 3) (omega arith) d)
    (cases_lt k (at + 3)))
    (cases_lt k (at + 2)))
    (cases_lt k (at + 1))
  where
    is : (place : ℕ) → place ≡ k → is_plain (get_or codes place 0) ≡ true → is_plain (get_or codes k 0) ≡ true
    is place same plain = subst (λ (n : ℕ). is_plain (get_or codes n 0) ≡ true) same plain
