-- An input queue as contracts see it. Its length and its count are this project's own.
use Rattle.std.specs.Prelude.{ℕ, ◌+◌, List, [], ◌++◌, drop, min}

-- the bytes from the first to the last, and the number of pieces that were dropped
pub record Queue : Type 0 where
  pub bytes : List ℕ
  pub dropped : ℕ

-- no bytes, and nothing dropped
abbrev pub empty : Queue
empty = record { bytes = []; dropped = 0 }

-- one more piece at the end
abbrev pub with_piece : Queue → List ℕ → Queue
with_piece q piece = record q { bytes = q.bytes ++ piece }

-- one more dropped piece; the count saturates at its greatest value
abbrev pub with_drop : Queue → Queue
with_drop q = record q { dropped = min (q.dropped + 1) 4294967295 }

-- without the first n bytes
abbrev pub without_front : Queue → ℕ → Queue
without_front q n = record q { bytes = drop n q.bytes }
