-- Colours of 24 bits and the console's: the colours of the indices from 0 to 255, and how any colour
-- is folded into one that a text cell can show. The folding is this project's own.
use Rattle.std.specs.Prelude.{ℕ, Bool, ◌+◌, ◌-◌, ◌*◌, ◌/◌, ◌%◌, ◌==◌, ◌&&◌, ◌||◌, nat_lt, nat_le, max, List, [], ◌∷◌, map, if◌then◌else◌, ◌<◌, All}

-- red, green and blue, each from 0 to 255
abbrev pub Rgb : Type 0
Rgb = ℕ × ℕ × ℕ

-- red, green and blue are bytes
abbrev pub AreBytes : List Rgb → Type 0
AreBytes colours = All (λ (rgb : Rgb). (rgb.0 < 256) × (rgb.1 < 256) × (rgb.2 < 256)) colours

-- a colour with one value in the parts that its number has, red 1, green 2 and blue 4, and another
-- value in the others
abbrev pub with_parts : ℕ → ℕ → ℕ → Rgb
with_parts c on off =
    let part = λ (weight : ℕ). if c / weight % 2 == 1 then on else off in
    (part 1, part 2, part 4)

-- one of the six levels of a part
abbrev pub sixth : ℕ → ℕ
sixth n = n * 255 / 6

-- the colour of an index: eight colours, the same bright, a cube of six steps each way with blue
-- fastest, and greys
abbrev pub rgb_of : ℕ → Rgb
rgb_of i =
    if nat_lt i 8 then with_parts i 0xAA 0
    else if nat_lt i 16 then with_parts i 0xFF 0x55
    else if nat_lt i 232 then
    (sixth ((i - 16) / 36), sixth ((i - 16) / 6 % 6), sixth ((i - 16) % 6))
    else (10 * i - 2312, 10 * i - 2312, 10 * i - 2312)

-- the colours of the palette at the start
abbrev pub start_palette : List Rgb
start_palette =
    map rgb_of
    (0 ∷ 1 ∷ 2 ∷ 3 ∷ 4 ∷ 5 ∷ 6 ∷ 7 ∷ 8 ∷ 9 ∷ 10 ∷ 11 ∷ 12 ∷ 13 ∷ 14 ∷ 15 ∷ [])

-- the number of the colour whose parts are those above a level
abbrev pub parts_above : ℕ → ℕ → ℕ → ℕ → ℕ
parts_above level r g b =
    (if nat_lt level r then 1 else 0)
    + (if nat_lt level g then 2 else 0)
    + (if nat_lt level b then 4 else 0)

-- the largest part
abbrev pub largest : ℕ → ℕ → ℕ → ℕ
largest r g b = max r (max g b)

-- the colour of the parts above half the largest
abbrev pub hue : ℕ → ℕ → ℕ → ℕ
hue r g b = parts_above (largest r g b / 2) r g b

-- a grey too dark to be white: it is shown as bold black
abbrev pub is_dark_grey : ℕ → ℕ → ℕ → Bool
is_dark_grey r g b = hue r g b == 7 && nat_le (largest r g b) 0x55

-- a character's colour, and whether it is bold
abbrev pub fold_fg : ℕ → ℕ → ℕ → ℕ × Bool
fold_fg r g b = (
  (if is_dark_grey r g b then 0 else hue r g b),
  is_dark_grey r g b || nat_lt 0xAA (largest r g b),
)

-- a background colour
abbrev pub fold_bg : ℕ → ℕ → ℕ → ℕ
fold_bg r g b = parts_above 127 r g b
