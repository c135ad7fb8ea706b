-- Words that spell a number: digits without sign and without leading zeros.
use Rattle.std.specs.Prelude.{◌≡◌, ◌≢◌, ℕ, ◌<◌, ◌≤◌, ◌^◌, List, length, slice_index, decimal}

-- the word spells no number up to the greatest one
abbrev pub IsNoNumberTo : ℕ → List ℕ → Type 0
IsNoNumberTo most word = (n : ℕ) → n ≤ most → decimal n ≢ word

-- the word spells no number of 64 bits
abbrev pub IsNoNumber : List ℕ → Type 0
IsNoNumber word = (n : ℕ) → n < 2 ^ 64 → decimal n ≢ word

-- the word has a first byte, which is neither a plus sign nor a needless zero
pub record IsPlain (word : List ℕ) : Type 0 where
  pub some : 0 < length word
  pub no_plus : slice_index word 0 ≢ 0x2B
  pub no_zero : slice_index word 0 ≡ 0x30 → length word ≡ 1
