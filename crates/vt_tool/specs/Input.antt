-- The bytes that are read from the source: one case for each way of reading. docs/reference/program.md, "Order" and
-- "Standard input".
use Rattle.std.specs.Prelude.{◌≡◌, ℕ, ◌<◌, ◌≤◌, List, [], length, Some}
use Rattle.std.specs.Io.KnownBytes.{Consumes, IsAtEnd}
use Rattle.vt_io.specs.Faults.{Rose}
use Rattle.vt_io.specs.Stream.{Stream}
use Rattle.vt_tool.specs.declared.intake.Intake.{Intake}
use Rattle.vt_tool.specs.declared.intake.Intake.TheVariants.{InPieces, NoInput, ToEnd}

-- the input isn't longer than the command takes
abbrev pub IsWithin : Intake → List ℕ → Type 0
IsWithin (ToEnd limit) input = length input ≤ limit
IsWithin (InPieces limit) input = length input ≤ limit
IsWithin NoInput input = input ≡ []

-- these bytes were read from the source
abbrev pub Takes : Stream → Stream → List ℕ → Type 0
Takes src src' bytes = Consumes src.bytes src'.bytes bytes

-- the whole input was read, to the source's end
abbrev pub ReadsAll : Intake → Stream → Stream → List ℕ → Type 0
ReadsAll (ToEnd limit) src src' input =
    Takes src src' input × IsAtEnd src'.bytes × IsWithin (ToEnd limit) input
ReadsAll (InPieces limit) src src' input =
    Takes src src' input × IsAtEnd src'.bytes × IsWithin (InPieces limit) input
ReadsAll NoInput src src' input = (src' ≡ src) × (input ≡ [])

-- some of the input was read
abbrev pub ReadsSome : Intake → Stream → Stream → Type 0
ReadsSome (ToEnd limit) src src' = (taken : List ℕ) × Takes src src' taken
ReadsSome (InPieces limit) src src' = (taken : List ℕ) × Takes src src' taken
ReadsSome NoInput src src' = src' ≡ src

-- the count of faults rose, and no more bytes than the limit were taken
abbrev pub StopsAtFault : Intake → Stream → Stream → Type 0
StopsAtFault (ToEnd limit) src src' =
    Rose src.faults src'.faults × (taken : List ℕ) × Takes src src' taken × (length taken ≤ limit)
StopsAtFault (InPieces limit) src src' =
    Rose src.faults src'.faults × (taken : List ℕ) × Takes src src' taken × (length taken ≤ limit)
StopsAtFault NoInput src src' = ⊥

-- the bytes passed the limit
abbrev pub PassesLimit : Intake → Stream → Stream → Type 0
PassesLimit (ToEnd limit) src src' =
    (taken : List ℕ) × Takes src src' taken × (limit < length taken)
PassesLimit (InPieces limit) src src' =
    (taken : List ℕ) × Takes src src' taken × (limit < length taken)
PassesLimit NoInput src src' = ⊥

-- this input is left in the source, and isn't longer than the command takes
abbrev pub Offers : Intake → Stream → List ℕ → Type 0
Offers (ToEnd limit) src input = (src.bytes ≡ Some input) × IsWithin (ToEnd limit) input
Offers (InPieces limit) src input = (src.bytes ≡ Some input) × IsWithin (InPieces limit) input
Offers NoInput src input = IsWithin NoInput input
