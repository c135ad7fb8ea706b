-- Texts in two parts, and the laws that each part is read by itself (keymaps(5)).
use Rattle.std.specs.Prelude.{◌≡◌, ℕ, Bool, false, ◌==◌, ◌&&◌, not, None, Result, Ok, Err, List, [], ◌∷◌, ◌++◌, ◌⊎◌, length, IsTrue}
use Rattle.key_text.specs.Cut.{end_len}
use Rattle.key_text.specs.Fault.{◌>>=◌}
use Rattle.key_text.specs.Included.{Named}
use Rattle.key_text.specs.KeymapLine.{KeymapLine}
use Rattle.key_text.specs.Reading.{Got, lines_of, most_deep, read_rows, start, with_lines, within}
use Rattle.key_text.specs.Rows.{backslash, place_after, line_feed, rows_of}
use Rattle.key_text.specs.Meanings.{meanings_or_fault}
use Rattle.key_text.specs.Tally.{none_included}
use Rattle.key_text.specs.declared.fault.KeyFault.{KeyFault}
use Rattle.key_text.specs.declared.placed.Place.{Place}
use Rattle.key_text.specs.declared.tally.Tally.{Tally}

-- the bytes are a line's end and no more
abbrev pub is_line_end : List ℕ → Bool
is_line_end [] = false
is_line_end (b ∷ bs) = end_len (b ∷ bs) == length (b ∷ bs)

-- the text ends with a line's end, and no backslash stands before it
abbrev pub is_ended : List ℕ → Bool
is_ended [] = false
is_ended (b ∷ []) = b == line_feed
is_ended (b ∷ c ∷ bs) = not (b == backslash && is_line_end (c ∷ bs)) && is_ended (c ∷ bs)

-- the place after a text that starts at this one
abbrev pub place_after_text : Place → List ℕ → Place
place_after_text at [] = at
place_after_text at (b ∷ bs) = place_after_text (place_after at b) bs

-- the result of a text that starts at this place, after the included texts of a tally
abbrev pub read_from : List Named → Place → Tally → List ℕ → Result Got KeyFault
read_from texts at tally text = read_rows (within most_deep texts) texts None tally (rows_of at text)

-- the lines of that result
abbrev pub lines_from : List Named → Place → Tally → List ℕ → Result (List KeymapLine) KeyFault
lines_from texts at tally text = read_from texts at tally text >>= λ g. Ok g.lines

-- a text is read from the start, with no text included before and no bound
abbrev pub StartsThere : Type 0
StartsThere = (texts : List Named) (text : List ℕ) → lines_of texts text ≡ lines_from texts start (none_included None) text

-- the place at which a text starts changes only the places of its lines
abbrev pub PlacesTell : Type 0
PlacesTell =
    (texts : List Named) (at there : Place) (tally : Tally) (text : List ℕ)
    → meanings_or_fault (lines_from texts at tally text) ≡ meanings_or_fault (lines_from texts there tally text)

-- if a text that ends a line has no fault, its lines stand before those of the text after it, which is read
-- as it would be there
abbrev pub TextsFollow : Type 0
TextsFollow =
    (texts : List Named) (at : Place) (tally : Tally) (a b : List ℕ) (g : Got)
    → IsTrue (is_ended a) → read_from texts at tally a ≡ Ok g
    → read_from texts at tally (a ++ b) ≡ with_lines g.lines (read_from texts (place_after_text at a) g.tally b)

-- if it has a fault, no text after it changes the answer
abbrev pub FaultsStop : Type 0
FaultsStop =
    (texts : List Named) (at : Place) (tally : Tally) (a b : List ℕ) (f : KeyFault)
    → IsTrue (is_ended a) → read_from texts at tally a ≡ Err f
    → read_from texts at tally (a ++ b) ≡ Err f

-- if a text has a fault, a prefix of it that ends a line has the same fault, or the prefix has none and the
-- rest has the fault at its place
abbrev pub FaultsAreFirst : Type 0
FaultsAreFirst =
    (texts : List Named) (at : Place) (tally : Tally) (a b : List ℕ) (f : KeyFault)
    → IsTrue (is_ended a) → read_from texts at tally (a ++ b) ≡ Err f
    → (read_from texts at tally a ≡ Err f)
    ⊎ ((g : Got) × (read_from texts at tally a ≡ Ok g) × (read_from texts (place_after_text at a) g.tally b ≡ Err f))
