-- Words and the decimal digits of numbers.
use Rattle.std.proofs.Common.{◌≡◌, ◌≢◌, ℕ, zero, suc, ◌+◌, ◌*◌, ◌-◌, ◌<◌, ◌≤◌, ◌^◌, Bool, true, false, eqb, true≢false, refl, List, [], ◌∷◌, length, get_or, sym, ap, ◌∙◌, subst, arith, rules, lit<}
use Rattle.std.specs.Prelude.{decimal, Result, Ok, Err, IfSome, IfNone}
use Rattle.std.specs.Bool.{OnFalse}
use Rattle.std.specs.Result.{result_ok}
use Rattle.std.specs.Str.Parse.{ParsesUnsigned}
use Rattle.std.specs.Str.{IsUtf8, all_ascii_digits}
use Rattle.std.proofs.lemmas.Str.{IsUtf8-from_ascii}
use Rattle.std.proofs.lemmas.Fmt.{IsAscii-decimal, decimal_digit, decimal_nonempty, decimal_injective, first_decimal, decimal-digits_value, parse-decimal}
use Rattle.std.proofs.lemmas.Str.Parse.{IsNumeralModel, numerals_by_fold, parse_plain}
use Rattle.vt_base.specs.Decimal.{IsNoNumber, IsNoNumberTo, IsPlain}

-- the number that digits write
pub read_on : ℕ → List ℕ → ℕ
read_on n [] = n
read_on n (c ∷ cs) = read_on (10 * n + (c - 48)) cs

pub numerals : IsNumeralModel (λ ds. all_ascii_digits ds ≡ true) (read_on 0)
unfolding read_on
numerals = numerals_by_fold _ (search rules) read_on (search rules)

-- no number is spelled by no digit
pub none_without_digits : (word : List ℕ) → length word ≡ 0 → IsNoNumber word
none_without_digits word empty n fits is = omega (arith, decimal_nonempty n fits, ap length is)

-- the first digit of a number
first_digit : (n : ℕ) → n < 2 ^ 64 → 48 ≤ get_or (decimal n) 0 0
first_digit zero fits = omega (arith, ap (λ ds. get_or ds 0 0) (decimal_digit 0 (lit< tt)))
first_digit (suc n) fits = omega (arith, first_decimal (suc n) (omega arith) fits)

-- no number is spelled with a plus
pub none_with_plus : (word : List ℕ) → get_or word 0 0 ≡ 43 → IsNoNumber word
none_with_plus word plus n fits is = omega (arith, first_digit n fits, ap (λ ds. get_or ds 0 0) is)

-- no number but 0 is spelled with a leading zero
pub none_with_zero : (word : List ℕ) → get_or word 0 0 ≡ 48 → length word ≢ 1 → IsNoNumber word
none_with_zero word leading long zero fits is =
    long (sym (ap length is) ∙ ap length (decimal_digit 0 (lit< tt)))
none_with_zero word leading long (suc n) fits is =
    omega (arith, first_decimal (suc n) (omega arith) fits, ap (λ ds. get_or ds 0 0) is)

-- what parse reads of a plain word is the number that it spells
pub found_by_parse : (E : Type 0) (word : List ℕ) (r : Result ℕ E) → ParsesUnsigned 64 10 word r
    → IsPlain word → IfSome (result_ok r) (λ n. decimal n ≡ word)
found_by_parse E word (Ok n) parsed plain =
    let read = parse_plain numerals {E = E} 64 word (Ok n) parsed plain.no_plus in
    ap decimal read.1
    ∙ decimal-digits_value numerals word read.0.0 plain.some plain.no_zero read.0.2
found_by_parse E word (Err e) parsed plain = tt

-- and where parse reads none, it spells none
pub none_by_parse : (E : Type 0) (word : List ℕ) (r : Result ℕ E) → ParsesUnsigned 64 10 word r
    → IfNone (result_ok r) (IsNoNumber word)
none_by_parse E word (Ok n) parsed = tt
none_by_parse E word (Err e) parsed =
    λ n fits is.
    let clash : Err e ≡ Ok n =
    parse-decimal {E = E} 64 n word (Err e) fits fits (sym is) parsed in
    cc

-- a word that spells a greater number spells none up to this one
pub none_to : (word : List ℕ) (most n : ℕ) → n < 2 ^ 64 → most < n → decimal n ≡ word
    → IsNoNumberTo most word
none_to word most n fits greater spelled other within is =
    let same : other ≡ n = decimal_injective other n (omega arith) fits (is ∙ sym spelled) in
    let impossible : ⊥ = omega (arith, same) in
    impossible

-- no number is spelled by bytes that are no text
pub none_without_text : (word : List ℕ) → ¬ IsUtf8 word → IsNoNumber word
none_without_text word no_text n fits is =
    no_text (subst IsUtf8 is (IsUtf8-from_ascii (decimal n) (IsAscii-decimal n fits)))

-- no number but 0 is spelled with a leading zero, where the test is made
pub none_with_zero_and_more : (word : List ℕ) → get_or word 0 0 ≡ 48
    → OnFalse (eqb (length word) 1) (IsNoNumber word)
none_with_zero_and_more word leading = by_test (eqb (length word) 1) refl
  where
    by_test : (b : Bool) → eqb (length word) 1 ≡ b → OnFalse b (IsNoNumber word)
    by_test true is = tt
    by_test false is =
        none_with_zero word leading (λ one. true≢false (sym (ap (λ n. eqb n 1) one) ∙ is))
