-- Numbers as keymaps spell them (keymaps(5)).
use Rattle.std.specs.Prelude.{ℕ, ◌+◌, ◌-◌, ◌*◌, Bool, ◌&&◌, nat_le, nat_lt, nat_eq, cond, Option, Some, None, List, [], ◌∷◌, codes, drop, fold}
use Rattle.std.specs.List.{starts_with}
use Rattle.std.specs.Option.{option_and_then, option_map}

-- the byte lies between two others, both included
abbrev pub is_between : ℕ → ℕ → ℕ → Bool
is_between low high b = nat_le low b && nat_le b high

-- the value of a digit, of either case
abbrev pub digit_of : ℕ → Option ℕ
digit_of b =
    cond (is_between 0x30 0x39 b) (Some (b - 0x30))
    (cond (is_between 0x41 0x46 b) (Some (b - 0x37))
    (cond (is_between 0x61 0x66 b) (Some (b - 0x57)) None))

-- the number, if it passes the test
abbrev pub number_if : (ℕ → Bool) → ℕ → Option ℕ
number_if test n = cond (test n) (Some n) None

-- the value of a digit of a base
abbrev pub digit_in : ℕ → ℕ → Option ℕ
digit_in base b = option_and_then (number_if (λ value. nat_lt value base)) (digit_of b)

-- a number, if there is one, with one more digit
abbrev pub with_digit : ℕ → Option ℕ → ℕ → Option ℕ
with_digit base number b =
    option_and_then (λ n. option_map (λ value. n * base + value) (digit_in base b)) number

-- the number that one digit or more spell in a base, the most significant first
abbrev pub number_in_base : ℕ → List ℕ → Option ℕ
number_in_base base [] = None
number_in_base base (b ∷ bs) = fold (with_digit base) (Some 0) (b ∷ bs)

-- a number: hexadecimal after 0x, octal after 0, otherwise decimal
abbrev pub number_of : List ℕ → Option ℕ
number_of text =
    cond (starts_with nat_eq text (codes "0x")) (number_in_base 16 (drop 2 text))
    (cond (starts_with nat_eq text (codes "0")) (number_in_base 8 text) (number_in_base 10 text))
