-- The forms of sequence that are read without a list of their parameters.
use Rattle.std.specs.Prelude.{ℕ, Bool, false, ◌==◌, ◌&&◌, ◌||◌, nat_le, List, [], ◌∷◌, length, take, drop, slice_index, if◌then◌else◌}
use Rattle.vt_chars.specs.Utf8.{within}
use Rattle.vt_units.specs.Bytes.{is_digit}
use Rattle.vt_units.specs.Reading.{after_prefix, longest_prefix, is_empty}
use Rattle.vt_units.specs.Rest.{Rest}

-- a letter, @ or a grave accent
abbrev pub is_short_end : ℕ → Bool
is_short_end b = within 0x40 0x5A b || within 0x60 0x7A b

-- a number of at most three digits, possibly of none, and the test holds for the text after it
abbrev pub is_number_before : (List ℕ → Bool) → List ℕ → Bool
is_number_before holds text = nat_le (length (longest_prefix is_digit text)) 3 && holds (after_prefix is_digit text)

abbrev pub ends_short : List ℕ → Bool
ends_short [] = false
ends_short (last ∷ more) = is_short_end last

-- the end, or a semicolon, a second number and the end
abbrev pub ends_numbers : List ℕ → Bool
ends_numbers [] = false
ends_numbers (b ∷ more) = if b == 0x3B then is_number_before ends_short more else is_short_end b

-- ESC [, one or two numbers and the end, in a text that has room for the longest such sequence
abbrev pub begins_short : List ℕ → Bool
begins_short text =
    nat_le 10 (length text)
    && (slice_index text 0 == 0x1B
    && (slice_index text 1 == 0x5B && is_number_before ends_numbers (drop 2 text)))

-- ESC and a byte from 0 to O
abbrev pub begins_escape : List ℕ → Bool
begins_escape (esc ∷ last ∷ more) = esc == 0x1B && within 0x30 0x4F last
begins_escape text = false

-- the end of SGR
abbrev pub ends_sgr : List ℕ → Bool
ends_sgr [] = false
ends_sgr (last ∷ more) = last == 0x6D

-- a semicolon and such a number after it
abbrev pub is_number_next : (List ℕ → Bool) → List ℕ → Bool
is_number_next holds [] = false
is_number_next holds (b ∷ more) = b == 0x3B && is_number_before holds more

-- ESC [, 38 or 48, and 5 or 2, each of the two followed by a semicolon
abbrev pub begins_colour : List ℕ → Bool
begins_colour text =
    slice_index text 0 == 0x1B
    && (slice_index text 1 == 0x5B
    && (within 0x33 0x34 (slice_index text 2)
    && (slice_index text 3 == 0x38
    && (slice_index text 4 == 0x3B
    && ((slice_index text 5 == 0x35 || slice_index text 5 == 0x32)
    && slice_index text 6 == 0x3B)))))

-- the end of a colour: one more number for a colour by its index, 5, and three for one by its parts
abbrev pub ends_colour : ℕ → List ℕ → Bool
ends_colour way text =
    if way == 0x35 then is_number_before ends_sgr text
    else is_number_before (is_number_next (is_number_next ends_sgr)) text

-- SGR of one colour, in a text that has room for the longest such sequence
abbrev pub begins_longer : List ℕ → Bool
begins_longer text =
    nat_le 19 (length text)
    && (begins_colour text && ends_colour (slice_index text 5) (drop 7 text))

-- such a control sequence stands at the start of the text, and nothing is pending
abbrev pub short_stands : Rest → List ℕ → Bool
short_stands rest text = if is_empty rest.text then begins_short (take 256 text) else false

-- such an escape sequence stands at the start of the text, and nothing is pending
abbrev pub escape_stands : Rest → List ℕ → Bool
escape_stands rest text = if is_empty rest.text then begins_escape text else false

-- such a sequence of SGR stands at the start of the text, and nothing is pending
abbrev pub longer_stands : Rest → List ℕ → Bool
longer_stands rest text = if is_empty rest.text then begins_longer (take 256 text) else false
