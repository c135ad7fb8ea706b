-- The four tables that give a byte its character (console_codes(4), "Character sets").
use Rattle.std.specs.Prelude.{ℕ, ◌+◌, ◌-◌, ◌==◌, List, [], ◌∷◌, slice_index, if◌then◌else◌}
use Rattle.vt_chars.specs.Utf8.{within}

-- the VT100 graphics from 5F to 7E
abbrev pub graphics : List ℕ
graphics =
    0x00A0 ∷ 0x25C6 ∷ 0x2592 ∷ 0x2409 ∷ 0x240C ∷ 0x240D ∷ 0x240A ∷ 0x00B0
    ∷ 0x00B1 ∷ 0x2424 ∷ 0x240B ∷ 0x2518 ∷ 0x2510 ∷ 0x250C ∷ 0x2514 ∷ 0x253C
    ∷ 0x23BA ∷ 0x23BB ∷ 0x2500 ∷ 0x23BC ∷ 0x23BD ∷ 0x251C ∷ 0x2524 ∷ 0x2534
    ∷ 0x252C ∷ 0x2502 ∷ 0x2264 ∷ 0x2265 ∷ 0x03C0 ∷ 0x2260 ∷ 0x00A3 ∷ 0x00B7
    ∷ []

-- the byte itself, except for the graphics
abbrev pub graphic_of : ℕ → ℕ
graphic_of b = if within 0x5F 0x7E b then slice_index graphics (b - 0x5F) else b

-- the character of a byte in the null mapping: straight to the font
abbrev pub font_place : ℕ → ℕ
font_place b = 0xF000 + b

-- the character of byte b: table 0 is Latin-1, 1 the graphics, 2 the null mapping and 3 the user's
abbrev pub char_of : List ℕ → ℕ → ℕ → ℕ
char_of user table b =
    if table == 0 then b
    else if table == 1 then graphic_of b
    else if table == 2 then font_place b
    else slice_index user b
