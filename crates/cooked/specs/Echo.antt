-- The echo of a byte.
use Rattle.std.specs.Prelude.{ℕ, zero, suc, ◌==◌, List, [], ◌∷◌, bit_xor, if◌then◌else◌}
use Rattle.cooked.specs.Fresh.{is_full}
use Rattle.cooked.specs.KeptText.{kept_characters, last_of}
use Rattle.cooked.specs.Kinds.{kind}
use Rattle.cooked.specs.Termios.{mapped_byte, is_control}
use Rattle.cooked.specs.declared.kind.Kind.{Kind}
use Rattle.cooked.specs.declared.kind.Kind.TheVariants.{Interrupt, Quit, Kill, Erase, Eof, End, Data}
use Rattle.cooked.specs.declared.termios.Termios.{Termios}
use Rattle.vt_cells.specs.Width.{columns}
use Rattle.vt_chars.specs.Utf8.{decoding_of}
use Rattle.vt_chars.specs.declared.decoded.Decoded.{Decoded}
use Rattle.vt_chars.specs.declared.decoded.Decoded.TheVariants.{Character, Unfinished, Malformed}

-- a new line: 0A, with 0D before it if ONLCR is on
abbrev pub newline : Termios → List ℕ
newline t = if t.onlcr then 0x0D ∷ 0x0A ∷ [] else 0x0A ∷ []

-- a control character is shown as ^ and a sign: ECHOCTL
abbrev pub caret : ℕ → List ℕ
caret b = 0x5E ∷ bit_xor b 0x40 ∷ []

-- the shown form of data
abbrev pub data_echo : Termios → ℕ → List ℕ
data_echo t b =
    if b == 0x0A then newline t
    else if is_control b then caret b
    else b ∷ []

-- BEL: the byte has no effect
abbrev pub bell : List ℕ
bell = 0x07 ∷ []

-- so many columns are wiped: back, a space over it, and back
abbrev pub erase_echo : ℕ → List ℕ
erase_echo zero = []
erase_echo (suc n) = 0x08 ∷ 0x20 ∷ 0x08 ∷ erase_echo n

-- the columns of a shown character: those of ^ and a sign, or its own
abbrev pub columns_shown : ℕ → ℕ
columns_shown code = if is_control code then 2 else columns code

-- the columns of decoded bytes: one, if they are no character
abbrev pub columns_by : Decoded → ℕ
columns_by (Character code) = columns_shown code
columns_by Unfinished = 1
columns_by Malformed = 1

-- the columns that an erase of this character takes: none, if there is no character
abbrev pub columns_of : List ℕ → ℕ
columns_of [] = 0
columns_of (a ∷ more) = columns_by (decoding_of (a ∷ more))

-- the echo of a byte that counts as b, by its kind and the fresh bytes before it
abbrev pub echo_by : Termios → List ℕ → ℕ → Kind → List ℕ
echo_by t fresh b Interrupt = caret b
echo_by t fresh b Quit = caret b
echo_by t fresh b Kill = newline t
echo_by t fresh b Erase =
    if is_full fresh then bell else erase_echo (columns_of (last_of (kept_characters t fresh)))
echo_by t fresh b Eof = []
echo_by t fresh b End = newline t
echo_by t fresh b Data = if is_full fresh then bell else data_echo t b

-- the echo of a byte after these fresh bytes
abbrev pub echo_of : Termios → List ℕ → ℕ → List ℕ
echo_of t fresh b = if t.echo then echo_by t fresh (mapped_byte t b) (kind t b) else []
