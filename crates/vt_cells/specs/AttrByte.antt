-- The attribute byte of a VGA text cell: blink is bit 7, the background bits 4 to 6, bright bit 3 and the
-- character's colour bits 0 to 2. How attributes become that byte is this project's own.
use Rattle.std.specs.Prelude.{ℕ, ◌+◌, ◌-◌, ◌*◌, ◌/◌, ◌%◌, ◌==◌, if◌then◌else◌}
use Rattle.vt_cells.specs.Rendition.{Rendition, Tints, is_bold, is_dim}

-- a colour's number in VGA, of sixteen: bits 0 and 2 are exchanged, since VGA counts blue 1 and red 4
abbrev pub vga : ℕ → ℕ
vga c = 8 * (c / 8) + 4 * (c % 2) + 2 * (c / 2 % 2) + c / 4 % 2

-- a background and a character's colour in one byte
abbrev pub byte_of : ℕ → ℕ → ℕ
byte_of bg fg = 16 * bg + fg

-- the background and the character's colour are exchanged; blink and bright stay
abbrev pub with_colours_swapped : ℕ → ℕ
with_colours_swapped b = 128 * (b / 128) + 16 * (b % 8) + 8 * (b / 8 % 2) + b / 16 % 8

-- the bit of this weight is set if it was clear, and cleared if it was set
abbrev pub with_bit_flipped : ℕ → ℕ → ℕ
with_bit_flipped weight b = if b / weight % 2 == 0 then b + weight else b - weight

-- the character's colour: green if italic is on, otherwise the one for underline, otherwise the one for
-- half-bright, otherwise its own
abbrev pub foreground : Rendition → Tints → ℕ
foreground a l =
    if a.italic then 2
    else if a.underline then vga l.ul
    else if is_dim a.intensity then vga l.dim
    else vga a.fg

-- the byte with reverse applied, then blink, then bold
abbrev pub attr_byte : Rendition → Tints → ℕ
attr_byte a l =
    let plain = byte_of (vga a.bg) (foreground a l) in
    let turned = if a.reverse then with_colours_swapped plain else plain in
    let blinking = if a.blink then with_bit_flipped 128 turned else turned in
    if is_bold a.intensity then with_bit_flipped 8 blinking else blinking

-- the byte of erased cells: the two colours alone
abbrev pub erase_byte : Rendition → ℕ
erase_byte a = byte_of (vga a.bg) (vga a.fg)
