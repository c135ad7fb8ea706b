-- A number if it is in a range, and None otherwise.
use Rattle.std.specs.Prelude.{ℕ, ◌||◌, nat_lt, Option, Some, None, if◌then◌else◌}

-- the number, if it is from low to high
abbrev pub in_range : ℕ → ℕ → ℕ → Option ℕ
in_range low high n = if nat_lt n low || nat_lt high n then None else Some n
