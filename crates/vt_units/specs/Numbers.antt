-- The parameters of a control sequence (console_codes(4), "ECMA-48 CSI sequences").
use Rattle.std.specs.Prelude.{ℕ, ◌+◌, ◌-◌, ◌*◌, ◌==◌, min, cond, List, [], ◌∷◌, map, take, if◌then◌else◌}

-- the texts between the semicolons, at least one
pub record Fields : Type 0 where
  pub first : List ℕ
  pub others : List (List ℕ)

abbrev pub fields_of : List ℕ → Fields
fields_of [] = record { first = []; others = [] }
fields_of (b ∷ bs) =
    let behind = fields_of bs in
    if b == 0x3B then record { first = []; others = behind.first ∷ behind.others }
    else record { first = b ∷ behind.first; others = behind.others }

-- the number of decimal digits that continue the digits of n
abbrev pub with_digits : ℕ → List ℕ → ℕ
with_digits n [] = n
with_digits n (d ∷ digits) = with_digits (n * 10 + (d - 0x30)) digits

-- a parameter: an empty one is 0, and a larger one than 65,535 is 65,535
abbrev pub number_of : List ℕ → ℕ
number_of digits = min 65535 (with_digits 0 digits)

-- the parameters, of which the first 16 count
abbrev pub params_of : List ℕ → List ℕ
params_of body =
    let fields = fields_of body in
    take 16 (map number_of (fields.first ∷ fields.others))

-- a number with one digit more. No public clause names this
abbrev pub number_with_digit : ℕ → ℕ → ℕ
number_with_digit n d = min 65535 (n * 10 + (d - 0x30))

-- the numbers of a body that continues the number n. No public clause names this
abbrev pub numbers_after : ℕ → List ℕ → List ℕ
numbers_after n [] = n ∷ []
numbers_after n (b ∷ bs) = cond (b == 0x3B) (n ∷ numbers_after 0 bs) (numbers_after (number_with_digit n b) bs)
