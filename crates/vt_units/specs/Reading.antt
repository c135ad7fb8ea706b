-- The unit of each whole text, in a mode (console_codes(4)). The text of a unit is its bytes without the
-- control characters that acted inside it and without each DEL that was ignored there.
use Rattle.std.specs.Prelude.{ℕ, Bool, true, false, not, cond, ◌==◌, ◌&&◌, nat_lt, List, [], ◌∷◌, length, take, drop, if◌then◌else◌}
use Rattle.vt_chars.specs.Utf8.{decoding_of, within}
use Rattle.vt_chars.specs.declared.decoded.Decoded.{Decoded}
use Rattle.vt_chars.specs.declared.decoded.Decoded.TheVariants.{Character, Unfinished, Malformed}
use Rattle.vt_units.specs.Bytes.{decodes, is_body, is_control, is_csi, is_digit, is_hex, is_mid, is_swallowed, joins, joins_command, opens_string}
use Rattle.vt_units.specs.Sequences.{colour_unit, control_unit, escape_unit}
use Rattle.vt_units.specs.declared.mode.Mode.{Mode}
use Rattle.vt_units.specs.declared.unit.Unit as units
use Rattle.vt_units.specs.declared.unit.Unit.TheVariants.{Char, Byte, Control, ColourReset, Ignored}

-- the kind of an unfinished text: the beginning of a character, of a sequence, of a sequence after ESC ] or
-- of a string, or a string with the ESC that may end it
pub data Kind : Type 0 where
  character : Kind
  sequence : Kind
  command : Kind
  string : Kind
  string_end : Kind

-- the reading of a whole text: a unit, a sequence that its last byte drops, the beginning of a unit, or none
-- of these
pub data Reading : Type 0 where
  whole : units.Unit → Reading
  dropped : Reading
  unfinished : Kind → Reading
  none : Reading

-- the longest prefix whose bytes pass, and the bytes after it
abbrev pub longest_prefix : (ℕ → Bool) → List ℕ → List ℕ
longest_prefix p [] = []
longest_prefix p (x ∷ xs) = cond (p x) (x ∷ longest_prefix p xs) []

abbrev pub after_prefix : (ℕ → Bool) → List ℕ → List ℕ
after_prefix p [] = []
after_prefix p (x ∷ xs) = cond (p x) (after_prefix p xs) (x ∷ xs)

abbrev pub is_empty : List ℕ → Bool
is_empty [] = true
is_empty (x ∷ xs) = false

-- the reading, if no bytes follow
abbrev pub alone : List ℕ → Reading → Reading
alone [] r = r
alone (x ∷ more) r = none

-- a byte that a sequence doesn't admit drops it, if the byte is part of it
abbrev pub dropped_or_none : Mode → ℕ → Reading
dropped_or_none m b = if joins m b then dropped else none

abbrev pub dropped_or_none_command : Mode → ℕ → Reading
dropped_or_none_command m b = if joins_command m b then dropped else none

-- CSI [ and one more byte
abbrev pub bracket_text : Mode → List ℕ → Reading
bracket_text m [] = unfinished sequence
bracket_text m (last ∷ more) =
    alone more (if within 0x20 0x7E last then whole Ignored else dropped_or_none m last)

-- a control sequence after CSI: a body, and the bytes that end it
abbrev pub control_ends : Mode → List ℕ → List ℕ → Reading
control_ends m body [] = unfinished sequence
control_ends m body (last ∷ more) =
    if is_empty body && last == 0x5B then bracket_text m more
    else alone more (if within 0x40 0x7E last then whole (control_unit body last) else dropped_or_none m last)

abbrev pub control_text : Mode → List ℕ → Reading
control_text m text = control_ends m (longest_prefix is_body text) (after_prefix is_body text)

-- a string after its opening bytes, and after the ESC that may end it
abbrev pub string_tail : List ℕ → Reading
string_tail [] = unfinished string_end
string_tail (last ∷ more) = alone more (if last == 0x5C then whole Ignored else none)

abbrev pub string_ends : List ℕ → Reading
string_ends [] = unfinished string
string_ends (last ∷ more) =
    if last == 0x1B then string_tail more else alone more (whole Ignored)

abbrev pub string_text : List ℕ → Reading
string_text text = string_ends (after_prefix is_swallowed text)

-- a colour of the palette after ESC ] P: seven digits
abbrev pub palette_ends : Mode → List ℕ → List ℕ → Reading
palette_ends m digits [] =
    if nat_lt (length digits) 7 then unfinished command
    else if length digits == 7 then whole (colour_unit digits)
    else none
palette_ends m digits (last ∷ more) =
    if nat_lt (length digits) 7 then alone more (dropped_or_none_command m last) else none

abbrev pub palette_text : Mode → List ℕ → Reading
palette_text m text = palette_ends m (longest_prefix is_hex text) (after_prefix is_hex text)

-- a text after ESC ]
abbrev pub command_text : Mode → List ℕ → Reading
command_text m [] = unfinished command
command_text m (b ∷ more) =
    if is_digit b then string_text more
    else if b == 0x50 then palette_text m more
    else alone more (if b == 0x52 then whole ColourReset else dropped_or_none_command m b)

-- an escape sequence after ESC: intermediate bytes, and the byte that ends it
abbrev pub escape_ends : Mode → List ℕ → List ℕ → Reading
escape_ends m mids [] = unfinished sequence
escape_ends m mids (last ∷ more) =
    if is_empty mids && opens_string last then string_text more
    else if is_empty mids && last == 0x5B then control_text m more
    else if is_empty mids && last == 0x5D then command_text m more
    else alone more (if within 0x30 0x7E last then whole (escape_unit mids last) else dropped_or_none m last)

abbrev pub escape_text : Mode → List ℕ → Reading
escape_text m text = escape_ends m (longest_prefix is_mid text) (after_prefix is_mid text)

-- the unit of a character: DEL and the C1 control characters are ignored, and a malformed byte is U+FFFD
abbrev pub character_unit : ℕ → units.Unit
character_unit code = if within 0x7F 0x9F code then Ignored else Char code

abbrev pub character_reading : List ℕ → Decoded → Reading
character_reading text (Character code) = whole (character_unit code)
character_reading text Unfinished = unfinished character
character_reading text Malformed = alone (drop 1 text) (whole (Char 0xFFFD))

-- the character U+009B, which is CSI
abbrev pub begins_csi : List ℕ → Bool
begins_csi (a ∷ b ∷ more) = a == 0xC2 && b == 0x9B
begins_csi text = false

abbrev pub character_text : Mode → List ℕ → Reading
character_text m text =
    if begins_csi text then control_text m (drop 2 text)
    else character_reading text (decoding_of text)

-- a byte that is shown by the byte tables; DEL is shown only if control characters are
abbrev pub byte_unit : Mode → ℕ → units.Unit
byte_unit m b = if b == 0x7F && not m.display then Ignored else Byte b

-- the reading of a text by its first byte, whatever its length is
abbrev pub text_reading : Mode → List ℕ → Reading
text_reading m [] = none
text_reading m (b ∷ more) =
    if b == 0x1B then escape_text m more
    else if is_csi m b then control_text m more
    else if is_control m b then alone more (whole (Control b))
    else if decodes m then character_text m (b ∷ more)
    else alone more (whole (byte_unit m b))

abbrev pub is_sequence : Reading → Bool
is_sequence (unfinished sequence) = true
is_sequence r = false

-- a byte after 256 bytes of a sequence drops it
abbrev pub overlong : Mode → List ℕ → Reading
overlong m [] = none
overlong m (last ∷ more) = alone more (dropped_or_none m last)

-- the reading of a whole text. A sequence that isn't a string has at most 256 bytes: this project's own
abbrev pub reading : Mode → List ℕ → Reading
reading m text =
    if nat_lt 256 (length text) && is_sequence (text_reading m (take 256 text))
    then overlong m (drop 256 text)
    else text_reading m text
