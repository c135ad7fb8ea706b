-- Bytes, and numbers of two bytes, at their places.
use Rattle.std.specs.Prelude.{ℕ, ◌+◌, ◌*◌, ◌==◌, ◌&&◌, Bool, List, slice_index_or}

abbrev pub byte_at : List ℕ → ℕ → ℕ
byte_at bytes i = slice_index_or bytes i 0

-- the number of 16 bits, the lowest byte first
abbrev pub number_at : List ℕ → ℕ → ℕ
number_at bytes i = byte_at bytes i + 256 * byte_at bytes (i + 1)

-- the number of four bytes has 16 bits: the other two are 0
abbrev pub is_number_at : List ℕ → ℕ → Bool
is_number_at bytes i = byte_at bytes (i + 2) == 0 && byte_at bytes (i + 3) == 0
