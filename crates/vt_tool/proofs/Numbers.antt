-- The number that a word spells.
use Rattle.std.proofs.Common.{◌≡◌, ◌≢◌, ℕ, ◌<◌, ◌≤◌, ◌^◌, Some, None, List, sym, ap, ◌∙◌, arith}
use Rattle.std.specs.Prelude.{decimal}
use Rattle.std.specs.Str.Parse.{digits_value}
use Rattle.std.proofs.lemmas.Bool.Decides.{nat_tests}
use Rattle.std.proofs.lemmas.Fmt.{decimal_is_IsNumeral}
use Rattle.std.proofs.lemmas.Slice.Eq.{bytes_eq-Decides}
use Rattle.vt_base.specs.Decimal.{IsNoNumberTo}
use Rattle.vt_tool.specs.Words.{if_spelled, number_in}

value_of_spelled : (n : ℕ) (word : List ℕ) → n < 2 ^ 64 → decimal n ≡ word
    → n ≡ digits_value 10 word
value_of_spelled n word fits is =
    sym (decimal_is_IsNumeral n fits).1 ∙ ap (digits_value 10) is

pub number_some : (low high n : ℕ) (word : List ℕ) → n < 2 ^ 64 → low ≤ n → n ≤ high → decimal n ≡ word
    → Some n ≡ number_in (record { low = low; high = high }) word
number_some low high n word fits above below is =
    let hit : Some n ≡ if_spelled (record { low = low; high = high }) word n =
    grind (arith, nat_tests, bytes_eq-Decides) in
    hit ∙ ap (if_spelled (record { low = low; high = high }) word) (value_of_spelled n word fits is)

pub number_low : (low high n : ℕ) (word : List ℕ) → n < 2 ^ 64 → n < low → decimal n ≡ word
    → None ≡ number_in (record { low = low; high = high }) word
number_low low high n word fits under is =
    let miss : None ≡ if_spelled (record { low = low; high = high }) word n =
    grind (arith, nat_tests, bytes_eq-Decides) in
    miss ∙ ap (if_spelled (record { low = low; high = high }) word) (value_of_spelled n word fits is)

missed : (low high n : ℕ) (word : List ℕ) → (n ≤ high → decimal n ≢ word)
    → None ≡ if_spelled (record { low = low; high = high }) word n
missed low high n word none = grind (arith, nat_tests, bytes_eq-Decides)

pub number_none : (low high : ℕ) (word : List ℕ) → IsNoNumberTo high word
    → None ≡ number_in (record { low = low; high = high }) word
number_none low high word none =
    missed low high (digits_value 10 word) word (λ below. none (digits_value 10 word) below)
