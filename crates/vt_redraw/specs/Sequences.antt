-- The sequences that a screen is drawn with (console_codes(4)), as text.
use Rattle.std.specs.Prelude.{ℕ, Bool, ◌+◌, ◌/◌, ◌%◌, ◌==◌, decimal, List, [], ◌∷◌, ◌++◌, if◌then◌else◌}
use Rattle.vt_base.specs.Digits.{hex_digit}
use Rattle.vt_cells.specs.AttrByte.{vga}
use Rattle.vt_cells.specs.Colours.{Rgb}

-- further numbers, each after a semicolon
abbrev pub more_numbers : List ℕ → List ℕ
more_numbers [] = []
more_numbers (n ∷ ns) = 0x3B ∷ decimal n ++ more_numbers ns

-- a control sequence of at least one number
abbrev pub sequence : ℕ → List ℕ → ℕ → List ℕ
sequence n ns last = 0x1B ∷ 0x5B ∷ (decimal n ++ more_numbers ns) ++ last ∷ []

-- CUP: to a row and a column, both counted from 0
abbrev pub place_text : ℕ → ℕ → List ℕ
place_text y x = sequence (y + 1) ((x + 1) ∷ []) 0x48

-- the final byte of a mode that is set or reset
abbrev pub switch : Bool → ℕ
switch on = if on then 0x68 else 0x6C

-- SM and RM: a mode on or off
unfoldable pub mode_text : ℕ → Bool → List ℕ
mode_text n on = sequence n [] (switch on)

-- DECSET and DECRST: a private mode on or off
unfoldable pub private_mode_text : ℕ → Bool → List ℕ
private_mode_text n on = 0x1B ∷ 0x5B ∷ 0x3F ∷ decimal n ++ switch on ∷ []

-- ESC % G: text is UTF-8; ESC % @: it isn't
unfoldable pub coding_text : Bool → List ℕ
coding_text utf8 = 0x1B ∷ 0x25 ∷ (if utf8 then 0x47 else 0x40) ∷ []

-- SO: G1 is in use; SI: G0 is
unfoldable pub shift_text : ℕ → List ℕ
shift_text shift = (if shift == 0 then 0x0F else 0x0E) ∷ []

-- DECPAM, and DECPNM
unfoldable pub keypad_text : Bool → List ℕ
keypad_text on = 0x1B ∷ (if on then 0x3D else 0x3E) ∷ []

-- the final byte that designates a table: B Latin-1, 0 the VT100 graphics, U the null mapping, K the
-- user's
abbrev pub table_letter : ℕ → ℕ
table_letter table =
    if table == 0 then 0x42
    else if table == 1 then 0x30
    else if table == 2 then 0x55
    else 0x4B

-- ESC ( designates G0, ESC ) G1
unfoldable pub g0_text : ℕ → List ℕ
g0_text table = 0x1B ∷ 0x28 ∷ table_letter table ∷ []

unfoldable pub g1_text : ℕ → List ℕ
g1_text table = 0x1B ∷ 0x29 ∷ table_letter table ∷ []

-- HTS, and DECSC
unfoldable pub stop_text : List ℕ
stop_text = 0x1B ∷ 0x48 ∷ []

unfoldable pub save_text : List ℕ
save_text = 0x1B ∷ 0x37 ∷ []

-- EL: from the cursor to the end of its row
unfoldable pub erase_text : List ℕ
erase_text = sequence 0 [] 0x4B

-- a byte in two hexadecimal digits, before more bytes
abbrev pub hex_digits : ℕ → List ℕ → List ℕ
hex_digits n more = hex_digit (n / 16) ∷ hex_digit (n % 16) ∷ more

-- ESC ] R: the palette as at the start
unfoldable pub start_palette_text : List ℕ
start_palette_text = 0x1B ∷ 0x5D ∷ 0x52 ∷ []

-- ESC ] P: a colour of the palette, by its number, red, green and blue
unfoldable pub colour_text : ℕ → Rgb → List ℕ
colour_text n (r, g, b) =
    0x1B ∷ 0x5D ∷ 0x50 ∷ hex_digit n ∷ hex_digits r (hex_digits g (hex_digits b []))

-- the numbers of SGR that make an attribute byte of a pen, whatever the pen is: nothing on, then bold and
-- blink if the byte has them, and the two colours, whose order VGA exchanges
abbrev pub byte_numbers : ℕ → List ℕ
byte_numbers b =
    (if b / 8 % 2 == 1 then 1 ∷ [] else [])
    ++ ((if b / 128 == 1 then 5 ∷ [] else [])
    ++ (30 + vga (b % 8)) ∷ (40 + vga (b / 16 % 8)) ∷ [])

unfoldable pub byte_text : ℕ → List ℕ
byte_text b = sequence 0 (byte_numbers b) 0x6D
