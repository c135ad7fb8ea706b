-- The result of a call that adds lines.
use Rattle.std.specs.Prelude.{◌≡◌, Result, Ok, Err, List, ◌++◌}
use Rattle.key_text.specs.Fault.{Fails}
use Rattle.key_text.specs.Reading.{Got, make_got}
use Rattle.key_text.specs.KeymapLine.{KeymapLine}
use Rattle.key_text.specs.declared.fault.KeyError.{KeyError}
use Rattle.key_text.specs.declared.fault.KeyFault.{KeyFault}
use Rattle.key_text.specs.declared.tally.Tally.{Tally}

-- the lines that reading gives were added after those before, and the call returned the tally of reading; or
-- the call failed as reading does, or memory ran out
abbrev pub Adds : List KeymapLine → List KeymapLine → Result Tally KeyError → Result Got KeyFault → Type 0
Adds old new (Ok tally) read =
    (lines : List KeymapLine) × (read ≡ Ok (make_got lines tally)) × (new ≡ old ++ lines)
Adds old new (Err e) read = Fails e read
