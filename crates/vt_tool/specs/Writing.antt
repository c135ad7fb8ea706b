-- The end of the writing of a text: docs/reference/program.md, "What out holds".
use Rattle.std.specs.Prelude.{◌≡◌, ◌⊎◌, ℕ, List, Result, Ok, Err, MatchResult}
use Rattle.std.specs.Io.KnownBytes.{Appends}
use Rattle.vt_io.specs.Faults.{Rose}
use Rattle.vt_io.specs.Stream.{Stream, GrowsByPrefix}
use Rattle.vt_tool.specs.Outcome.{Outcome}
use Rattle.vt_tool.specs.declared.status.Status.{Status}
use Rattle.vt_tool.specs.declared.status.Status.TheVariants.{NoMemory, WriteFault}

-- the sink has grown by the text; or its count rose, and it has grown by a prefix of the text
abbrev pub EndsWriting : {T E : Type 0} → Stream → Stream → List ℕ → Result T E → Type 0
EndsWriting sink sink' text result = MatchResult result
    (λ _. Appends sink.bytes sink'.bytes text)
    (λ _. Rose sink.faults sink'.faults × GrowsByPrefix sink.bytes sink'.bytes text)

-- the whole text was written, or a prefix of it and out's count rose; or memory ran out before
abbrev pub EndsGiving : {E : Type 0} → Stream → Stream → Result Outcome E → Status → Type 0
EndsGiving out out' (Ok outcome) status =
    ((status ≡ outcome.status) × Appends out.bytes out'.bytes outcome.text)
    ⊎ ((status ≡ WriteFault) × Rose out.faults out'.faults
    × GrowsByPrefix out.bytes out'.bytes outcome.text)
EndsGiving out out' (Err e) status = (status ≡ NoMemory) × (out' ≡ out)
