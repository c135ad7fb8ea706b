-- The result of a byte after a rest. Both are defined by the readings of whole texts.
use Rattle.std.specs.Prelude.{ℕ, Bool, true, false, ◌==◌, [], ◌∷◌, ◌++◌, if◌then◌else◌}
use Rattle.vt_units.specs.Bytes.{acts, interrupts, is_swallowed}
use Rattle.vt_units.specs.Reading.{Reading, character, sequence, command, string, string_end, whole, dropped, unfinished, none, reading}
use Rattle.vt_units.specs.Rest.{Rest, fresh, rest_with_byte}
use Rattle.vt_units.specs.declared.mode.Mode.{Mode}
use Rattle.vt_units.specs.declared.read.Read.{Read}
use Rattle.vt_units.specs.declared.then.Then as then

-- the byte continues the unfinished character
abbrev pub goes_on : Reading → Bool
goes_on none = false
goes_on r = true

-- the byte after some texts ends them: the part of the rest that is then left before b, and whether it was a
-- malformed character
pub record RestBefore : Type 0 where
  pub bad : Bool
  pub rest : Rest

abbrev pub unbroken_rest : Rest → RestBefore
unbroken_rest r = record { bad = false; rest = r }

-- an unfinished character before a byte that doesn't continue it is malformed; ESC, and CSI in byte mode,
-- break a sequence off; after an ESC in a string, a byte that isn't \ ends the string and belongs to the
-- sequence of that ESC
abbrev pub rest_before_by : Reading → Rest → Mode → ℕ → RestBefore
rest_before_by (unfinished character) old m b =
    if goes_on (reading old.mode (old.text ++ b ∷ [])) then unbroken_rest old
    else record { bad = true; rest = fresh m }
rest_before_by (unfinished sequence) old m b = unbroken_rest (if interrupts old.mode b then fresh m else old)
rest_before_by (unfinished command) old m b = unbroken_rest (if interrupts old.mode b then fresh m else old)
rest_before_by (unfinished string) old m b =
    unbroken_rest (if b == 0x1B then record { mode = m; text = old.text } else old)
rest_before_by (unfinished string_end) old m b =
    unbroken_rest (if b == 0x5C then old
    else if interrupts old.mode b then fresh m
    else record { mode = old.mode; text = 0x1B ∷ [] })
rest_before_by r old m b = unbroken_rest (fresh m)

abbrev pub rest_before : Rest → Mode → ℕ → RestBefore
rest_before old m b = rest_before_by (reading old.mode old.text) old m b

-- the byte acts inside the sequence
abbrev pub acts_in : Reading → ℕ → Bool
acts_in (unfinished sequence) b = acts b
acts_in (unfinished command) b = acts b
acts_in r b = false

-- the byte has no effect and isn't kept: DEL in a sequence, or a byte of a string
abbrev pub vanishes_in : Reading → ℕ → Bool
vanishes_in (unfinished sequence) b = b == 0x7F
vanishes_in (unfinished string) b = is_swallowed b
vanishes_in r b = false

-- the result of a byte, and the rest after it
pub record ByteOutcome : Type 0 where
  pub got : then.Then
  pub rest : Rest

abbrev pub make_outcome : then.Then → Rest → ByteOutcome
make_outcome got r = record { got = got; rest = r }

-- the result, by the reading of the text with the byte
abbrev pub outcome_by_reading : Reading → Rest → ℕ → ByteOutcome
outcome_by_reading (whole u) r b = make_outcome (then.Then.Unit u) (fresh r.mode)
outcome_by_reading (unfinished kind) r b = make_outcome then.Then.More (rest_with_byte r b)
outcome_by_reading dropped r b = make_outcome then.Then.Dropped (fresh r.mode)
outcome_by_reading none r b = make_outcome then.Then.Dropped (fresh r.mode)

abbrev pub outcome_of_text : Rest → ℕ → ByteOutcome
outcome_of_text r b = outcome_by_reading (reading r.mode (r.text ++ b ∷ [])) r b

abbrev pub byte_outcome : Rest → ℕ → ByteOutcome
byte_outcome r b =
    let now = reading r.mode r.text in
    if acts_in now b then make_outcome (then.Then.Act b) r
    else if vanishes_in now b then make_outcome then.Then.More r
    else outcome_of_text r b

-- the answer to b, given in mode m
abbrev pub answer : Rest → Mode → ℕ → Read
answer old m b =
    let s = rest_before old m b in
    record { bad = s.bad; got = (byte_outcome s.rest b).got }

-- the rest after b
abbrev pub rest_after : Rest → Mode → ℕ → Rest
rest_after old m b = (byte_outcome (rest_before old m b).rest b).rest
