-- A text cut into pieces and one last rest.
use Rattle.std.specs.Prelude.{◌≡◌, ◌⊎◌, ℕ, true, false, ◌==◌, List, [], ◌∷◌, ◌++◌, if◌then◌else◌}
use Rattle.vt_units.specs.Bytes.{interrupts}
use Rattle.vt_units.specs.Laws.{Event, did, event_effects}
use Rattle.vt_units.specs.Pieces.{after_controls, controls_of, rest_with, text_of}
use Rattle.vt_units.specs.Reading.{Kind, Reading, character, sequence, command, string, string_end, whole, dropped, unfinished, none, is_empty, reading}
use Rattle.vt_units.specs.Rest.{Rest, fresh}
use Rattle.vt_units.specs.Run.{Effects, Reached, make_reached, run}
use Rattle.vt_units.specs.Units.{IsUnfinished}
use Rattle.vt_units.specs.declared.mode.Mode.{Mode}
use Rattle.vt_units.specs.declared.unit.Unit as units

-- the rest before a piece; if there is no text, its mode is that of the state
abbrev pub rest_before_piece : {S : Type 0} → Effects S → Reached S → Rest
rest_before_piece e at = if is_empty at.rest.text then fresh (e.mode_of at.state) else at.rest

-- a text of this kind is ended by a byte that isn't part of it. An unfinished character becomes U+FFFD;
-- ESC, and 9B in byte mode, break a sequence off; after the ESC of a string, a byte that isn't \ ends the
-- string before that ESC, and the next piece begins with that ESC
abbrev pub IsEnded : {S : Type 0} → Effects S → Kind → Mode → List ℕ → ℕ → S → Rest → Reached S → Type 0
IsEnded e character m text b s left next =
    (reading m (text ++ b ∷ []) ≡ none) × (next ≡ make_reached (e.on_unit (units.Unit.Char 0xFFFD) s) (fresh m))
IsEnded e sequence m text b s left next = (interrupts m b ≡ true) × (next ≡ make_reached s (fresh m))
IsEnded e command m text b s left next = (interrupts m b ≡ true) × (next ≡ make_reached s (fresh m))
IsEnded e string m text b s left next = ⊥
IsEnded e string_end m text b s left next =
    ((b == 0x5C) ≡ false) × (next ≡ make_reached s (record { mode = left.mode; text = 0x1B ∷ [] }))

abbrev pub IsEndedBefore : {S : Type 0} → Effects S → Kind → Mode → List ℕ → List ℕ → S → Rest → Reached S → Type 0
IsEndedBefore e k m text [] s left next = ⊥
IsEndedBefore e k m text (b ∷ more) s left next = IsEnded e k m text b s left next

-- the result of a piece, by the reading of its text: a unit, a sequence that is dropped, or the end that the
-- bytes after it cause
abbrev pub PieceComesTo : {S : Type 0} → Effects S → Reading → Mode → List ℕ → List ℕ → S → Rest → Reached S → Type 0
PieceComesTo e (whole u) m text more s left next = next ≡ make_reached (e.on_unit u s) (fresh left.mode)
PieceComesTo e dropped m text more s left next = next ≡ make_reached s (fresh left.mode)
PieceComesTo e (unfinished k) m text more s left next = IsEndedBefore e k m text more s left next
PieceComesTo e none m text more s left next = ⊥

-- the bytes of a piece, with these bytes after it: the control characters in the piece act, and then its text
-- has its effect
abbrev pub IsPiece : {S : Type 0} → Effects S → Reached S → List ℕ → List ℕ → Reached S → Type 0
IsPiece e at bytes more next =
    let r = rest_before_piece e at in
    let text = text_of r.mode r.text bytes in
    PieceComesTo e (reading r.mode text) r.mode text more
    (after_controls e (controls_of r.mode r.text bytes) at.state) (rest_with e at.state r bytes) next

-- the last bytes: none if there is no text, otherwise those of an unfinished text. Its control characters
-- have acted, and the text is the rest
abbrev pub IsLast : {S : Type 0} → Effects S → Reached S → List ℕ → Reached S → Type 0
IsLast e at bytes after =
    let r = rest_before_piece e at in
    ((bytes ≡ []) × (at.rest.text ≡ []) × (after ≡ at))
    ⊎ (IsUnfinished r.mode (text_of r.mode r.text bytes)
    × (after ≡ make_reached (after_controls e (controls_of r.mode r.text bytes) at.state) (rest_with e at.state r bytes)))

-- the bytes of the pieces in order, and the last ones
abbrev pub all_bytes : List (List ℕ) → List ℕ → List ℕ
all_bytes [] last = last
all_bytes (piece ∷ pieces) last = piece ++ all_bytes pieces last

-- the pieces, each from the result of the one before it, and the last rest
abbrev pub ComeInOrder : {S : Type 0} → Effects S → Reached S → List (List ℕ) → List ℕ → Reached S → Type 0
ComeInOrder e at [] last after = IsLast e at last after
ComeInOrder {S} e at (piece ∷ pieces) last after =
    (next : Reached S) × IsPiece e at piece (all_bytes pieces last) next × ComeInOrder e next pieces last after

pub record IsCut {S : Type 0} (e : Effects S) (at : Reached S) (bytes : List ℕ) (after : Reached S) : Type 0 where
  pub pieces : List (List ℕ)
  pub last : List ℕ
  pub all : all_bytes pieces last ≡ bytes
  pub come : ComeInOrder e at pieces last after

-- no text is pending, or an unfinished one
abbrev pub IsRest : Rest → Type 0
IsRest r = (r.text ≡ []) ⊎ IsUnfinished r.mode r.text

-- every text consists of pieces and one last rest, and its run is their results, if U+FFFD changes no mode
abbrev pub TextsAreCut : Type 0
TextsAreCut =
    (mode_of : List Event → Mode)
    → ((events : List Event) → mode_of (events ++ did (units.Unit.Char 0xFFFD) ∷ []) ≡ mode_of events)
    → (at : Reached (List Event)) (bytes : List ℕ) → IsRest at.rest
    → IsCut (event_effects mode_of) at bytes (run (event_effects mode_of) bytes at)

-- however a text is cut into pieces and one last rest, their result is its run, if U+FFFD changes no mode
abbrev pub CutsAreRuns : Type 0
CutsAreRuns =
    (mode_of : List Event → Mode)
    → ((events : List Event) → mode_of (events ++ did (units.Unit.Char 0xFFFD) ∷ []) ≡ mode_of events)
    → (at : Reached (List Event)) (bytes : List ℕ) (after : Reached (List Event)) → IsRest at.rest
    → IsCut (event_effects mode_of) at bytes after → after ≡ run (event_effects mode_of) bytes at
