-- Sets of consoles, as numbers: bit n stands for console n, and bit 0 for none.
use Rattle.std.specs.Int.{bit_at}
use Rattle.std.specs.List.{range_with_len}
use Rattle.std.specs.Prelude.{◌≡◌, ℕ, ◌==◌, Bool, true, false, List, map, Option, Some, None, if◌then◌else◌}

abbrev pub is_among : ℕ → ℕ → Bool
is_among consoles n = bit_at consoles n == 1

-- a value for each console of the set, by number
abbrev pub at_each : {A : Type 0} → ℕ → A → List (Option A)
at_each consoles a = map (λ n. if is_among consoles n then Some a else None) (range_with_len 0 64)

-- a set that a display can begin with: it has the console in front, and bit 0 isn't set
pub record IsFitSet (consoles front : ℕ) : Type 0 where
  pub no_zero : is_among consoles 0 ≡ false
  pub has_front : is_among consoles front ≡ true
