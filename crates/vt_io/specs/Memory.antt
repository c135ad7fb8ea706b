-- The source and the sink in memory, whose bytes and faults are known.
use Rattle.std.specs.Prelude.{◌≡◌, ◌≢◌, ℕ, ◌<◌, ◌-◌, ◌⊎◌, ◌++◌, min, List, length, take, drop, slice_index, Result, MatchResult, Some}
use Rattle.vt_io.specs.Faults.{one_more}
use Rattle.vt_io.specs.Stream.{Stream}

-- the bytes left, which of the next calls fail (each by a byte that isn't 0), and the count of
-- faults
pub record SourceState : Type 0 where
  pub left : List ℕ
  pub fails : List ℕ
  pub faults : ℕ

-- the bytes held, how many more fit, which of the next calls fail, and the count of faults
pub record SinkState : Type 0 where
  pub held : List ℕ
  pub room : ℕ
  pub fails : List ℕ
  pub faults : ℕ

-- the bytes left in the source, and its faults
abbrev pub source_stream : SourceState → Stream
source_stream s = record { bytes = Some s.left; faults = s.faults }

-- the bytes held by the sink, and its faults
abbrev pub sink_stream : SinkState → Stream
sink_stream s = record { bytes = Some s.held; faults = s.faults }

-- the next call is one of those that fail
abbrev pub IsNamed : List ℕ → Type 0
IsNamed fails = slice_index fails 0 ≢ 0

-- a read moves as many bytes as are left and the buffer has room for, or fails if the call is named
abbrev pub Reads : {E : Type 0} → SourceState → SourceState → List ℕ → List ℕ → Result ℕ E → Type 0
Reads old new before after result = MatchResult result
    (λ n. (slice_index old.fails 0 ≡ 0)
    × (n ≡ min (length before) (length old.left))
    × (after ≡ take n old.left ++ drop n before)
    × (new ≡ record {
      left = drop n old.left;
      fails = drop 1 old.fails;
      faults = old.faults;
    }))
    (λ _. IsNamed old.fails
    × (after ≡ before)
    × (new ≡ record {
      left = old.left;
      fails = drop 1 old.fails;
      faults = one_more old.faults;
    }))

-- a write takes as much of its piece as fits, or fails if the call is named or no byte fits
abbrev pub Writes : {E : Type 0} → SinkState → SinkState → List ℕ → Result ℕ E → Type 0
Writes old new piece result = MatchResult result
    (λ n. (slice_index old.fails 0 ≡ 0)
    × (n ≡ min (length piece) old.room)
    × (0 < length piece → 0 < old.room)
    × (new ≡ record {
      held = old.held ++ take n piece;
      room = old.room - n;
      fails = drop 1 old.fails;
      faults = old.faults;
    }))
    (λ _. (IsNamed old.fails ⊎ ((0 < length piece) × (old.room ≡ 0)))
    × (new ≡ record {
      held = old.held;
      room = old.room;
      fails = drop 1 old.fails;
      faults = one_more old.faults;
    }))
