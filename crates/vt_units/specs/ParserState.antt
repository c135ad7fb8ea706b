-- The pending bytes at each stage of the parser. No public clause names this.
use Rattle.std.specs.Prelude.{◌≡◌, ◌<◌, ◌⊎◌, ℕ, Bool, true, false, List, [], ◌∷◌, ◌++◌, length}
use Rattle.vt_chars.specs.Utf8.{decoding_of}
use Rattle.vt_chars.specs.declared.decoded.Decoded.TheVariants.{Unfinished}
use Rattle.vt_units.specs.Answer.{RestBefore, ByteOutcome, answer, outcome_of_text, unbroken_rest, rest_after, make_outcome, byte_outcome}
use Rattle.vt_units.specs.Bytes.{decodes, is_body, is_csi, is_digit, is_hex, is_mid, opens_string}
use Rattle.vt_units.specs.Rest.{Rest, fresh, rest_with_byte}
use Rattle.vt_units.specs.declared.remainder.Remainder.{Remainder}
use Rattle.vt_units.specs.declared.remainder.Remainder.TheVariants.{All, Nothing, Malformed, AllInNewMode, Escape}
use Rattle.vt_units.specs.declared.mode.Mode.{Mode}
use Rattle.vt_units.specs.declared.step.Step.{Step}
use Rattle.vt_units.specs.declared.step.Step.TheVariants.{Keep, Grow, Clear}
use Rattle.vt_units.specs.declared.parser_state.ParserState as stage
use Rattle.vt_units.specs.declared.then.Then as then

-- each byte passes the test
abbrev pub Each : (ℕ → Bool) → List ℕ → Type 0
Each p [] = Unit {0}
Each p (x ∷ xs) = (p x ≡ true) × Each p xs

-- the bytes are CSI
abbrev pub IsIntroducer : Mode → List ℕ → Type 0
IsIntroducer m intro =
    (intro ≡ 0x1B ∷ 0x5B ∷ [])
    ⊎ (((intro ≡ 0x9B ∷ []) × (is_csi m 0x9B ≡ true))
    ⊎ ((intro ≡ 0xC2 ∷ 0x9B ∷ []) × (decodes m ≡ true)))

-- CSI and a body
pub record HasBody (m : Mode) (t body : List ℕ) : Type 0 where
  pub intro : List ℕ
  pub is : t ≡ intro ++ body
  pub introduces : IsIntroducer m intro
  pub passes : Each is_body body

-- the bytes open a string
abbrev pub IsOpener : List ℕ → Type 0
IsOpener t =
    ((b : ℕ) × (t ≡ 0x1B ∷ b ∷ []) × (opens_string b ≡ true))
    ⊎ ((b : ℕ) × (t ≡ 0x1B ∷ 0x5D ∷ b ∷ []) × (is_digit b ≡ true))

abbrev pub Stands : stage.ParserState → Mode → List ℕ → Type 0
Stands stage.ParserState.Ground m t = t ≡ []
Stands stage.ParserState.Utf8 m t = (decodes m ≡ true) × (decoding_of t ≡ Unfinished)
Stands stage.ParserState.Escape m t = (mids : List ℕ) × (t ≡ 0x1B ∷ mids) × Each is_mid mids
Stands stage.ParserState.Control m t = (body : List ℕ) × HasBody m t body
Stands stage.ParserState.CsiBracket m t = (intro : List ℕ) × (t ≡ intro ++ 0x5B ∷ []) × IsIntroducer m intro
Stands stage.ParserState.Osc m t = t ≡ 0x1B ∷ 0x5D ∷ []
Stands stage.ParserState.Palette m t =
    (digits : List ℕ) × (t ≡ 0x1B ∷ 0x5D ∷ 0x50 ∷ digits) × Each is_hex digits × (length digits < 7)
Stands stage.ParserState.ControlString m t = IsOpener t
Stands stage.ParserState.StringEscape m t = (opener : List ℕ) × (t ≡ opener ++ 0x1B ∷ []) × IsOpener opener

-- the outcome of byte b after the rest r is this result and this step of the pending bytes
abbrev pub Steps : ByteOutcome → Rest → ℕ → then.Then → Step → Type 0
Steps all r b got Keep = all ≡ make_outcome got r
Steps all r b got (Grow to) =
    (all ≡ make_outcome got (rest_with_byte r b)) × (length r.text < 256) × Stands to r.mode (r.text ++ b ∷ [])
Steps all r b got Clear = all ≡ make_outcome got (fresh r.mode)

abbrev pub rest_of : Mode → List ℕ → Rest
rest_of m t = record { mode = m; text = t }

-- the result and the step are those of the byte, by the reading of the text with it
abbrev pub IsOutcomeOf : Mode → List ℕ → ℕ → then.Then → Step → Type 0
IsOutcomeOf m t b got step = Steps (outcome_of_text (rest_of m t) b) (rest_of m t) b got step

-- the part of the rest at a stage that is left before a byte with mode now
abbrev pub Leaves : RestBefore → stage.ParserState → Rest → Mode → Remainder → Type 0
Leaves all at old now All = all ≡ unbroken_rest old
Leaves all at old now Nothing = all ≡ unbroken_rest (fresh now)
Leaves all at old now Malformed = all ≡ record { bad = true; rest = fresh now }
Leaves all at old now AllInNewMode =
    (all ≡ unbroken_rest (record { mode = now; text = old.text })) × (at ≡ stage.ParserState.ControlString)
Leaves all at old now Escape = all ≡ unbroken_rest (record { mode = old.mode; text = 0x1B ∷ [] })

-- the result and the step are those of the byte after the text
abbrev pub Inside : Mode → List ℕ → ℕ → then.Then → Step → Type 0
Inside m t b got step = Steps (byte_outcome (rest_of m t) b) (rest_of m t) b got step

-- the text is a sequence that isn't a string and doesn't begin with ESC ]
abbrev pub IsSequence : stage.ParserState → Type 0
IsSequence stage.ParserState.Escape = Unit {0}
IsSequence stage.ParserState.Control = Unit {0}
IsSequence stage.ParserState.CsiBracket = Unit {0}
IsSequence other = ⊥

-- the byte has no result, whichever mode it is given in
abbrev pub Quiet : Rest → ℕ → Rest → Type 0
Quiet old b new =
    (m : Mode) → (answer old m b ≡ record { bad = false; got = then.Then.More }) × (rest_after old m b ≡ new)
