-- Words of digits.
use Rattle.std.proofs.Common.{◌≡◌, ℕ, ◌+◌, ◌*◌, ◌/◌, ◌%◌, ◌<◌, ◌≤◌, List, [], ◌∷◌, ◌++◌, decimal, get_or, length, take, arith, sym, ap, ◌∙◌}
use Rattle.std.proofs.lemmas.Fmt.{decimal_digit, decimal_step}
use Rattle.std.proofs.lemmas.List.{take_more}

-- a digit
pub one_digit : (word : List ℕ) (n : ℕ) → 0 < length word → n < 10 → get_or word 0 0 ≡ 48 + n
    → decimal n ≡ take 1 word
one_digit word n some one is =
    decimal_digit n one ∙ ap (λ (b : ℕ). b ∷ []) (sym is) ∙ sym (take_more word 0 0 some)

-- one more digit
pub decimal_more : (n d : ℕ) (digits : List ℕ) → 1 ≤ n → n < 100000000 → d < 10 → decimal n ≡ digits
    → decimal (10 * n + d) ≡ digits ++ (48 + d) ∷ []
decimal_more n d digits some short one is =
    let high : (10 * n + d) / 10 ≡ n = omega arith in
    let low : (10 * n + d) % 10 ≡ d = omega arith in
    decimal_step (10 * n + d) (omega arith) (omega arith)
    ∙ (λ j. decimal (high j) ++ (48 + low j) ∷ [])
    ∙ ap (λ ds. ds ++ (48 + d) ∷ []) is
