-- Sets of signals, as numbers: bit s - 1 stands for signal s (signal(7)).
use Rattle.std.specs.Int.{bit_at}
use Rattle.std.specs.Prelude.{◌≡◌, ◌≢◌, ℕ, ◌+◌, ◌-◌, ◌^◌, ◌<◌, ◌≤◌, ◌==◌, Bool, true, false, if◌then◌else◌}

abbrev pub has_signal : ℕ → ℕ → Bool
has_signal set s = bit_at set (s - 1) == 1

abbrev pub with_signal : ℕ → ℕ → ℕ
with_signal set s = if has_signal set s then set else set + 2 ^ (s - 1)

-- no signal from n on is in the set
abbrev pub HasNoneFrom : ℕ → ℕ → Type 0
HasNoneFrom set n = (t : ℕ) → n ≤ t → t ≤ 64 → has_signal set t ≡ false

-- the first signal of the set from n on
pub record IsFirstFrom (set n s : ℕ) : Type 0 where
  pub from : n ≤ s
  pub here : has_signal set s ≡ true
  pub none_before : (t : ℕ) → n ≤ t → t < s → has_signal set t ≡ false

-- the set `with` has signal s and the signals of `set`, and no other
pub record IsWith (set s with : ℕ) : Type 0 where
  pub here : has_signal with s ≡ true
  pub others : (t : ℕ) → 1 ≤ t → t ≢ s → has_signal with t ≡ has_signal set t

abbrev pub WithAddsOne : Type 0
WithAddsOne = (set s : ℕ) → 1 ≤ s → IsWith set s (with_signal set s)
