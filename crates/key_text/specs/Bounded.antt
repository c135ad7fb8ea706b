-- A bound on the bytes of the included texts, and the law that it changes nothing else.
use Rattle.std.specs.Prelude.{◌≡◌, ◌⊎◌, ℕ, Err, List}
use Rattle.key_text.specs.FaultKinds.{TOO_LONG_INCLUDES}
use Rattle.key_text.specs.Included.{Named}
use Rattle.key_text.specs.Reading.{lines_of, lines_within}
use Rattle.key_text.specs.declared.fault.KeyFault.{KeyFault}

-- with a bound a text has the lines, or the fault, that it has without one, or its fault is that of the bound
abbrev pub BoundsStop : Type 0
BoundsStop =
    (most : ℕ) (texts : List Named) (text : List ℕ)
    → (lines_within most texts text ≡ lines_of texts text)
    ⊎ ((f : KeyFault) × (lines_within most texts text ≡ Err f) × (f.kind ≡ TOO_LONG_INCLUDES))
