-- `Bytes` as contracts see it.
use Rattle.std.specs.Prelude.{◌≡◌, ℕ, ◌+◌, List, ◌++◌, Result, Ok, Err, length}

-- a list of bytes, and how many more fit
pub record Text : Type 0 where
  pub bytes : List ℕ
  pub room : ℕ

-- the piece was added at the end, and as many fewer bytes fit
pub record Grew (piece : List ℕ) (old new : Text) : Type 0 where
  pub bytes : new.bytes ≡ old.bytes ++ piece
  pub room : new.room + length piece ≡ old.room

-- the piece is added at the end; if memory runs out, the text and its room are unchanged
abbrev pub Adds : {T E : Type 0} → List ℕ → Text → Text → Result T E → Type 0
Adds piece old new (Ok done) = new.bytes ≡ old.bytes ++ piece
Adds piece old new (Err e) = new ≡ old
