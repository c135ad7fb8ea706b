-- The laws of runs. Each law is about the definitions alone.
use Rattle.std.specs.Prelude.{◌≡◌, ◌⊎◌, ◌↔◌, ◌<◌, ◌≤◌, ℕ, true, false, ◌==◌, List, [], ◌∷◌, ◌++◌, length, take, Some}
use Rattle.vt_units.specs.WholeSequence.{Sequence, taken_ahead}
use Rattle.vt_units.specs.Answer.{answer, rest_after, rest_before}
use Rattle.vt_units.specs.Bytes.{decodes, interrupts, is_control, is_printable}
use Rattle.vt_units.specs.Pieces.{HasEffect, controls_of, rest_with, text_of}
use Rattle.vt_units.specs.Reading.{character, sequence, command, string_end, dropped, unfinished, none, reading, whole}
use Rattle.vt_units.specs.Rest.{Rest, fresh}
use Rattle.vt_units.specs.Run.{Effects, Reached, make_reached, run}
use Rattle.vt_units.specs.Units.{IsUnfinished}
use Rattle.vt_units.specs.declared.mode.Mode.{Mode}
use Rattle.vt_units.specs.declared.then.Then as then
use Rattle.vt_units.specs.declared.unit.Unit as units

-- an event of a run: a control character that acted, or a unit
pub data Event : Type 0 where
  act : ℕ → Event
  did : units.Unit → Event

-- the effects that collect events in a list, with any modes: every other state is computed from the list
abbrev pub event_effects : (List Event → Mode) → Effects (List Event)
event_effects mode_of = record {
  mode_of = mode_of;
  on_control = λ c events. events ++ act c ∷ [];
  on_unit = λ u events. events ++ did u ∷ [];
}

-- any cut: bytes run as a whole are run in two parts, wherever they are cut
abbrev pub AnyCut : Type 0
AnyCut =
    (mode_of : List Event → Mode) (at : Reached (List Event)) (a b : List ℕ)
    → run (event_effects mode_of) (a ++ b) at ≡ run (event_effects mode_of) b (run (event_effects mode_of) a at)

-- the bytes of a piece have the effects of the control characters in it, in order, and then that of its unit,
-- whatever modes these effects give the bytes after the first
abbrev pub PiecesAct : Type 0
PiecesAct =
    (mode_of : List Event → Mode) (events : List Event) (rest : Rest) (bytes : List ℕ) → rest.text ≡ []
    → let m = mode_of events in
    HasEffect (event_effects mode_of) (reading m (text_of m [] bytes)) (controls_of m [] bytes)
    (rest_with (event_effects mode_of) events (fresh m) bytes)
    (run (event_effects mode_of) bytes (make_reached events rest)) events

-- both rests give the same answer and the same rest
abbrev pub AreAlike : Rest → Rest → Mode → ℕ → Type 0
AreAlike old other m b = (answer old m b ≡ answer other m b) × (rest_after old m b ≡ rest_after other m b)

-- a byte that doesn't continue a character is read as if no text were pending, after U+FFFD
abbrev pub CharactersEnd : Type 0
CharactersEnd =
    (old : Rest) (m : Mode) (b : ℕ) → reading old.mode old.text ≡ unfinished character
    → reading old.mode (old.text ++ b ∷ []) ≡ none
    → (answer old m b ≡ record { bad = true; got = (answer (fresh m) m b).got })
    × (rest_after old m b ≡ rest_after (fresh m) m b)

-- a byte that breaks a sequence off is read as if no text were pending
abbrev pub SequencesEnd : Type 0
SequencesEnd =
    (old : Rest) (m : Mode) (b : ℕ)
    → (reading old.mode old.text ≡ unfinished sequence) ⊎ (reading old.mode old.text ≡ unfinished command)
    → interrupts old.mode b ≡ true → AreAlike old (fresh m) m b

-- after an ESC in a string, a byte that isn't \ is read as if it followed that ESC alone
abbrev pub StringsEnd : Type 0
StringsEnd =
    (old : Rest) (m : Mode) (b : ℕ) → reading old.mode old.text ≡ unfinished string_end
    → (b == 0x5C) ≡ false → AreAlike old (record { mode = old.mode; text = 0x1B ∷ [] }) m b

-- the law of pieces, for a piece whose first bytes are in the rest
abbrev pub PiecesResume : Type 0
PiecesResume =
    (mode_of : List Event → Mode) (events : List Event) (rest : Rest) (bytes : List ℕ)
    → IsUnfinished rest.mode rest.text
    → HasEffect (event_effects mode_of) (reading rest.mode (text_of rest.mode rest.text bytes))
    (controls_of rest.mode rest.text bytes) (rest_with (event_effects mode_of) events rest bytes)
    (run (event_effects mode_of) bytes (make_reached events rest)) events

-- a byte drops a sequence exactly if the pending text with this byte is a dropped sequence
abbrev pub DropsExactly : Type 0
DropsExactly =
    (old : Rest) (m : Mode) (b : ℕ) → (old.text ≡ []) ⊎ IsUnfinished old.mode old.text
    → let r = (rest_before old m b).rest in
    ((answer old m b).got ≡ then.Then.Dropped) ↔ (reading r.mode (r.text ++ b ∷ []) ≡ dropped)

-- a printable byte of UTF-8 is a character by itself if no text is pending, and leaves no text
abbrev pub PrintablesAreCharacters : Type 0
PrintablesAreCharacters =
    (old : Rest) (m : Mode) (b : ℕ) → old.text ≡ [] → decodes m ≡ true → is_printable b ≡ true
    → (answer old m b ≡ record { bad = false; got = then.Then.Unit (units.Unit.Char b) })
    × (rest_after old m b ≡ fresh m)

-- a control character is a unit by itself if no text is pending, and leaves no text
abbrev pub ControlsAreUnits : Type 0
ControlsAreUnits =
    (old : Rest) (m : Mode) (b : ℕ) → old.text ≡ [] → is_control m b ≡ true → (b == 0x1B) ≡ false
    → (answer old m b ≡ record { bad = false; got = then.Then.Unit (units.Unit.Control b) })
    × (rest_after old m b ≡ fresh m)

-- bytes, given in one mode after a rest, have no result before the last one, which ends this unit and leaves
-- no text
abbrev pub ComeTo : units.Unit → Mode → Rest → List ℕ → Type 0
ComeTo u m old [] = ⊥
ComeTo u m old (b ∷ []) =
    (answer old m b ≡ record { bad = false; got = then.Then.Unit u }) × (rest_after old m b ≡ fresh m)
ComeTo u m old (b ∷ c ∷ bytes) =
    (answer old m b ≡ record { bad = false; got = then.Then.More })
    × ComeTo u m (rest_after old m b) (c ∷ bytes)

-- a sequence that is read at once: it stands in the text, its bytes are the text of its unit, and read one by
-- one they give that unit
pub record IsUnitOf (m : Mode) (old : Rest) (text : List ℕ) (s : Sequence) : Type 0 where
  pub within : s.count ≤ length text
  pub spells : reading m (take s.count text) ≡ whole s.unit
  pub comes : ComeTo s.unit m old (take s.count text)

abbrev pub SequencesAreUnits : Type 0
SequencesAreUnits =
    (old : Rest) (m : Mode) (text : List ℕ) (s : Sequence) → taken_ahead old text ≡ Some s
    → IsUnitOf m old text s

-- the unit prints only a character by its code point, or the byte b that ends its text
abbrev pub PrintsOnly : ℕ → units.Unit → Type 0
PrintsOnly b (units.Unit.Char code) = code < 0x110000
PrintsOnly b (units.Unit.Byte byte) = byte ≡ b
PrintsOnly b u = Unit {0}

abbrev pub ThenPrints : ℕ → then.Then → Type 0
ThenPrints b (then.Then.Unit u) = PrintsOnly b u
ThenPrints b t = Unit {0}

-- the result of a byte prints a code point, or the byte itself
abbrev pub TextsSpellCharacters : Type 0
TextsSpellCharacters = (old : Rest) (m : Mode) (b : ℕ) → ThenPrints b (answer old m b).got
