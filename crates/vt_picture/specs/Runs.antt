-- The runs of a row, cells next to each other that are drawn as one text, and the words of a run.
use Rattle.std.specs.Prelude.{Bool, ◌==◌, ◌&&◌, ◌||◌, nat_lt, not, List, [], ◌∷◌, if◌then◌else◌}
use Rattle.vt_cells.specs.Width.{columns, is_half}
use Rattle.vt_cells.specs.declared.cell.Cell.{Cell}

-- the cell is a character of one column, and one unit of UTF-16, in which SVG counts places of characters
abbrev pub is_narrow : Cell → Bool
is_narrow cell = columns cell.code == 1 && (not (is_half cell) && nat_lt cell.code 0x10000)

-- two neighbours belong to one run: the right one is a right half, or both are characters of one column with
-- the same attribute
unfoldable pub are_joined : Cell → Cell → Bool
are_joined left right =
    is_half right || (is_narrow left && (is_narrow right && left.attr == right.attr))

-- the cell is a space
abbrev pub is_blank : Cell → Bool
is_blank cell = cell.code == 0x20

-- the cell is neither a space nor a part of a frame (Unicode: Box Drawing, Block Elements)
abbrev pub is_letter : Cell → Bool
is_letter cell = not (is_blank cell) && (nat_lt cell.code 0x2500 || nat_lt 0x259F cell.code)

-- two neighbours belong to one word: both are letters, or they are the same character
unfoldable pub are_alike : Cell → Cell → Bool
are_alike left right = (is_letter left && is_letter right) || left.code == right.code

-- a cell to the left of groups: it is the first one's, or a group of its own
abbrev pub with_left : (Cell → Cell → Bool) → Cell → List (List Cell) → List (List Cell)
with_left belong cell [] = (cell ∷ []) ∷ []
with_left belong cell ([] ∷ more) = (cell ∷ []) ∷ more
with_left belong cell ((first ∷ group) ∷ more) =
    if belong cell first then (cell ∷ first ∷ group) ∷ more
    else (cell ∷ []) ∷ (first ∷ group) ∷ more

-- cells cut between the neighbours that don't belong together, from left to right
abbrev pub groups : (Cell → Cell → Bool) → List Cell → List (List Cell)
groups belong [] = []
groups belong (cell ∷ rest) = with_left belong cell (groups belong rest)

-- the runs of cells
abbrev pub runs : List Cell → List (List Cell)
runs cells = groups are_joined cells

-- the words of a run
abbrev pub words : List Cell → List (List Cell)
words run = groups are_alike run
