-- The content of a text, without the places of its lines.
use Rattle.std.specs.Prelude.{ℕ, Result, Ok, Err, List, map}
use Rattle.key_text.specs.KeymapLine.{KeymapLine, LineMeaning}
use Rattle.key_text.specs.declared.fault.KeyFault.{KeyFault}

abbrev pub meanings : List KeymapLine → List LineMeaning
meanings lines = map (λ line. line.meaning) lines

-- the contents of the lines, in order, or the kind of the first fault
abbrev pub meanings_or_fault : Result (List KeymapLine) KeyFault → Result (List LineMeaning) ℕ
meanings_or_fault (Ok lines) = Ok (meanings lines)
meanings_or_fault (Err f) = Err f.kind
