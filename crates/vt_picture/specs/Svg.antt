-- Parts of an SVG text: the attributes of its elements, and rectangles.
use Rattle.std.specs.Prelude.{ℕ, ◌/◌, ◌%◌, List, [], ◌∷◌, ◌++◌, codes, decimal}
use Rattle.vt_base.specs.Digits.{hex_digit}
use Rattle.vt_cells.specs.Colours.{Rgb}

-- the attribute of this name, whose value is a number
unfoldable pub number_attribute : List ℕ → ℕ → List ℕ
number_attribute name n = 0x20 ∷ name ++ (codes "='" ++ (decimal n ++ codes "'"))

-- a byte in two digits
unfoldable pub hex_pair : ℕ → List ℕ
hex_pair b = hex_digit (b / 16) ∷ hex_digit (b % 16) ∷ []

-- the attribute that fills a shape or a text with a colour
unfoldable pub fill_attribute : Rgb → List ℕ
fill_attribute colour =
    codes " fill='#" ++ (hex_pair colour.0 ++ (hex_pair colour.1 ++ (hex_pair colour.2 ++ codes "'")))

-- a rectangle: its left and upper edge, its width and height, and its colour
unfoldable pub rectangle : ℕ → ℕ → ℕ → ℕ → Rgb → List ℕ
rectangle x y width height colour =
    codes "<rect"
    ++ (number_attribute (codes "x") x
    ++ (number_attribute (codes "y") y
    ++ (number_attribute (codes "width") width
    ++ (number_attribute (codes "height") height
    ++ (fill_attribute colour
    ++ codes "/>\n")))))
