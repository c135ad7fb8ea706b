-- The order of keys against the order of their places.
use Rattle.std.proofs.Common.{◌≡◌, ◌≢◌, ℕ, ◌+◌, ◌*◌, ◌/◌, ◌%◌, ◌<◌, ◌≤◌, ◌==◌, ◌&&◌, true, false, refl, arith, ltb, rules}
use Rattle.std.proofs.lemmas.Bool.{cases_lt, eq-eqb}
use Rattle.std.proofs.lemmas.Bool.Decides.{eqb_tells, nat_tests}
use Rattle.key_machine.specs.Keys.{is_before}

pub less : (a b : ℕ) → a < b → ltb a b ≡ true
less a b lt = grind (arith, nat_tests)

pub not-less : (a b : ℕ) → b ≤ a → ltb a b ≡ false
not-less a b le = grind (arith, nat_tests)

pub apart : (a b : ℕ) → a ≢ b → (a == b) ≡ false
apart a b ne = grind (arith, nat_tests)

-- a test of two numbers, by their order
pub both_same : (a b c d : ℕ) → a ≡ b → c ≡ d → (a == b && c == d) ≡ true
both_same a b c d first second = rw (eq-eqb a b first, eq-eqb c d second) refl

pub both_other : (a b c d : ℕ) → (a ≡ b → c ≢ d) → (a == b && c == d) ≡ false
both_other a b c d other = search (rules, eqb_tells, apart)

pub first_before : (a b c d : ℕ) → a < b → is_before a c b d ≡ true
first_before a b c d lt = rw (less a b lt) refl

pub second_before : (a b c d : ℕ) → a ≡ b → c < d → is_before a c b d ≡ true
second_before a b c d same lt = rw (not-less a b (omega (arith, same)), eq-eqb a b same, less c d lt) refl

pub first_after : (a b c d : ℕ) → b < a → is_before a c b d ≡ false
first_after a b c d lt = rw (not-less a b (omega (arith, lt)), apart a b (λ same. omega (arith, lt, same))) refl

pub second_after : (a b c d : ℕ) → a ≡ b → d ≤ c → is_before a c b d ≡ false
second_after a b c d same le = rw (not-less a b (omega (arith, same)), eq-eqb a b same, not-less c d le) refl

-- the key of place n
pub here : (n from code : ℕ) → n ≡ 256 * from + code → code < 256 → (n / 256 == from && n % 256 == code) ≡ true
here n from code is low = both_same (n / 256) from (n % 256) code (omega arith) (omega arith)

pub elsewhere : (n from code : ℕ) → n ≢ 256 * from + code → code < 256 → (n / 256 == from && n % 256 == code) ≡ false
elsewhere n from code other low = both_other (n / 256) from (n % 256) code (λ first second. other (omega arith))

pub before : (n from code : ℕ) → n < 256 * from + code → code < 256 → is_before (n / 256) (n % 256) from code ≡ true
before n from code lt low = search (rules, first_before, second_before, cases_lt)

pub not-before : (n from code : ℕ) → 256 * from + code ≤ n → code < 256 → is_before (n / 256) (n % 256) from code ≡ false
not-before n from code le low = search (rules, first_after, second_after, cases_lt)

pub after : (n from code : ℕ) → 256 * from + code < n → code < 256 → is_before from code (n / 256) (n % 256) ≡ true
after n from code lt low = search (rules, first_before, second_before, cases_lt)

pub not-after : (n from code : ℕ) → n ≤ 256 * from + code → code < 256 → is_before from code (n / 256) (n % 256) ≡ false
not-after n from code le low = search (rules, first_after, second_after, cases_lt)
