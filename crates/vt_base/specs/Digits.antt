-- The value of a hexadecimal digit, and the two digits of a byte.
use Rattle.std.specs.Prelude.{ℕ, ◌+◌, ◌-◌, ◌/◌, ◌%◌, Option, Some, None, ◌&&◌, nat_le, nat_lt, List, [], ◌∷◌, if◌then◌else◌}

-- the value of a hexadecimal digit with its letters in lower case
abbrev pub lower_hex_value : ℕ → Option ℕ
lower_hex_value b =
    if nat_le 0x30 b && nat_le b 0x39 then Some (b - 0x30)
    else if nat_le 0x61 b && nat_le b 0x66 then Some (b - 0x57)
    else None

-- the value of a hexadecimal digit with its letters in either case
abbrev pub hex_value : ℕ → Option ℕ
hex_value b = if nat_le 0x41 b && nat_le b 0x46 then Some (b - 0x37) else lower_hex_value b

-- the hexadecimal digit of a number below 16, in lower case
abbrev pub hex_digit : ℕ → ℕ
hex_digit n = if nat_lt n 10 then 0x30 + n else 0x57 + n

-- the two digits of a byte
abbrev pub hex_byte : ℕ → List ℕ
hex_byte b = hex_digit (b / 16) ∷ hex_digit (b % 16) ∷ []
