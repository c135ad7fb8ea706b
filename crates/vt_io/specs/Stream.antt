-- Sources and sinks in contracts: their bytes, their faults, and the bounds of a read and a write.
use Rattle.std.specs.Prelude.{◌≡◌, ℕ, Bool, IsTrue, ◌<◌, ◌≤◌, List, length, take, drop, Option, Some, None, Result, IfOk, MatchResult, OnOk}
use Rattle.std.specs.Io.{ReadsAtMost, WritesAtMost}
use Rattle.std.specs.Io.KnownBytes.{Appends, ReadConsumes, WriteAppends}
use Rattle.vt_io.specs.Faults.{HasCause}

-- the bytes that are left in a source or held by a sink, if they are known, and the count of faults
pub record Stream : Type 0 where
  pub bytes : Option (List ℕ)
  pub faults : ℕ

-- a source that never fails, with these bytes left
abbrev pub faultless : List ℕ → Stream
faultless left = record { bytes = Some left; faults = 0 }

-- a stream whose bytes aren't known, with so many faults
abbrev pub unknown_stream : ℕ → Stream
unknown_stream faults = record { bytes = None; faults = faults }

-- the bytes held have grown by a prefix of the text
abbrev pub GrowsByPrefix : Option (List ℕ) → Option (List ℕ) → List ℕ → Type 0
GrowsByPrefix old new text = (n : ℕ) × Appends old new (take n text)

-- a read leaves the buffer unchanged after the bytes that it counts, and the whole buffer if it fails
abbrev pub FillsFront : {E : Type 0} → Result ℕ E → List ℕ → List ℕ → Type 0
FillsFront result before after = MatchResult result
    (λ n. drop n after ≡ drop n before)
    (λ _. after ≡ before)

-- a write of a piece that isn't empty takes at least one byte of it
abbrev pub MovesOn : {E : Type 0} → Result ℕ E → List ℕ → Type 0
MovesOn result piece = 0 < length piece → IfOk result (λ n. 1 ≤ n)

-- a read into a buffer, which was `before` and is `after`. If the source is steady, a read that doesn't fail leaves
-- the count of faults unchanged
pub record IsRead {E : Type 0} (steady : Bool) (old new : Stream) (before after : List ℕ) (result : Result ℕ E) : Type 0 where
  pub bound : ReadsAtMost result after
  pub bytes : ReadConsumes old.bytes new.bytes result after
  pub buffer : FillsFront result before after
  pub cause : HasCause old.faults new.faults result
  pub kept : IsTrue steady → OnOk result (new.faults ≡ old.faults)

-- a write of a piece
pub record IsWrite {E : Type 0} (old new : Stream) (piece : List ℕ) (result : Result ℕ E) : Type 0 where
  pub bound : WritesAtMost result piece
  pub bytes : WriteAppends old.bytes new.bytes result piece
  pub moves : MovesOn result piece
  pub cause : HasCause old.faults new.faults result
