-- A screen as a picture in SVG 1.1. Each run of a row is a rectangle in its background and a text over it, in
-- which each word has the places of its cells. The choice of elements is this project's own.
use Rattle.std.specs.Prelude.{ℕ, zero, suc, ◌+◌, ◌-◌, ◌*◌, List, [], ◌∷◌, ◌++◌, codes, decimal, length, slice_index_or, if◌then◌else◌}
use Rattle.std.specs.List.{flat_map}
use Rattle.vt_cells.specs.declared.cell.Cell.{Cell}
use Rattle.vt_picture.specs.Characters.{cell_text}
use Rattle.vt_picture.specs.Colours.{attribute, background, classes, foreground}
use Rattle.vt_picture.specs.Runs.{is_blank, runs, words}
use Rattle.vt_picture.specs.Svg.{fill_attribute, number_attribute, rectangle}
use Rattle.vt_grid.specs.Grid.{GridView, row_at}
use Rattle.vt_canvas.specs.Screen.{Screen, start_blank}
use Rattle.vt_canvas.specs.declared.screen_state.ScreenState.{ScreenState}

-- a cell's width and height: those of most fonts at the size that `opening_tag` has, so that frames are joined
abbrev pub cell_width : ℕ
cell_width = 8

abbrev pub cell_height : ℕ
cell_height = 15

-- how far below the top of a cell the characters stand
abbrev pub base_line : ℕ
base_line = 11

-- how far below the top of its cell the cursor's line begins, and how high it is
abbrev pub cursor_line : ℕ
cursor_line = 13

abbrev pub cursor_height : ℕ
cursor_height = 2

-- the first cell of a run or of a word, which has at least one
abbrev pub first_cell : List Cell → Cell
first_cell cells = slice_index_or cells 0 start_blank

-- the left edges of so many cells next to each other, of which the first is in column x
abbrev pub edges : ℕ → ℕ → List ℕ
edges x zero = []
edges x (suc count) = codes " " ++ (decimal (cell_width * x) ++ edges (suc x) count)

-- the tag of a word of so many cells from column x on: the left edge of each of them
unfoldable pub word_tag : ℕ → ℕ → List ℕ
word_tag x count =
    codes "<tspan x='" ++ (decimal (cell_width * x) ++ (edges (suc x) (count - 1) ++ codes "'>"))

-- a word from column x on; spaces need no place
unfoldable pub word_text : ℕ → List Cell → List ℕ
word_text x word =
    if is_blank (first_cell word) then flat_map cell_text word
    else word_tag x (length word) ++ (flat_map cell_text word ++ codes "</tspan>")

-- words next to each other, of which the first begins in column x
abbrev pub words_text : ℕ → List (List Cell) → List ℕ
words_text x [] = []
words_text x (word ∷ more) = word_text x word ++ words_text (x + length word) more

-- the tag of a text in row y from column x on
unfoldable pub letters_tag : ScreenState → ℕ → ℕ → ℕ → List ℕ
letters_tag state y x attr =
    codes "<text"
    ++ (number_attribute (codes "x") (cell_width * x)
    ++ (number_attribute (codes "y") (cell_height * y + base_line)
    ++ (fill_attribute (foreground state attr)
    ++ (classes attr ++ codes ">"))))

-- the text of a run in row y from column x on
unfoldable pub letters_text : ScreenState → ℕ → ℕ → List Cell → ℕ → List ℕ
letters_text state y x run attr =
    letters_tag state y x attr ++ (words_text x (words run) ++ codes "</text>\n")

-- a run in row y from column x on, with the attribute of its first cell
unfoldable pub run_text : ScreenState → ℕ → ℕ → List Cell → List ℕ
run_text state y x run =
    let attr = attribute state (first_cell run) in
    rectangle (cell_width * x) (cell_height * y) (cell_width * length run) cell_height (background state attr)
    ++ letters_text state y x run attr

-- runs next to each other in row y, of which the first begins in column x
abbrev pub runs_text : ScreenState → ℕ → ℕ → List (List Cell) → List ℕ
runs_text state y x [] = []
runs_text state y x (run ∷ more) = run_text state y x run ++ runs_text state y (x + length run) more

-- rows below each other, of which the first is row y
abbrev pub rows_text : ScreenState → ℕ → List (List Cell) → List ℕ
rows_text state y [] = []
rows_text state y (row ∷ rows) = runs_text state y 0 (runs row) ++ rows_text state (suc y) rows

-- the cell under the cursor
abbrev pub cursor_cell : Screen → Cell
cursor_cell s = slice_index_or (row_at s.grid s.state.y) s.state.x start_blank

-- the cursor: a line at the foot of its cell, in the colour of the cell's character
unfoldable pub cursor_text : Screen → List ℕ
cursor_text s =
    if s.state.visible
    then rectangle (cell_width * s.state.x) (cell_height * s.state.y + cursor_line) cell_width cursor_height
    (foreground s.state (attribute s.state (cursor_cell s)))
    else []

-- the size in words
unfoldable pub size_words : GridView → List ℕ
size_words g = decimal g.rows ++ (codes " rows and " ++ (decimal g.cols ++ codes " columns"))

-- the cursor's place in words, counted from 1
unfoldable pub place_words : ScreenState → List ℕ
place_words state =
    codes "The cursor is in row "
    ++ (decimal (state.y + 1) ++ (codes " and column " ++ (decimal (state.x + 1) ++ codes ".")))

-- the cursor's place in words, or that it is hidden
abbrev pub cursor_words : ScreenState → List ℕ
cursor_words state = if state.visible then place_words state else codes "The cursor is hidden."

-- the style of text: it keeps its spaces, bold text is bold, and blinking text is hidden every other half
-- second, except for readers who want less motion
unfoldable pub style : List ℕ
style =
    codes "<style>text{white-space:pre}.bold{font-weight:bold}"
    ++ (codes ".blink{animation:blink 1s steps(2,start) infinite}@keyframes blink{to{visibility:hidden}}"
    ++ codes "@media(prefers-reduced-motion:reduce){.blink{animation:none}}</style>\n")

-- the tag of the picture, with its size
unfoldable pub opening_tag : GridView → List ℕ
opening_tag g =
    codes "<svg xmlns='http://www.w3.org/2000/svg' xml:space='preserve'"
    ++ (codes " font-family='monospace' font-size='13.3' shape-rendering='crispEdges'"
    ++ (number_attribute (codes "width") (cell_width * g.cols)
    ++ (number_attribute (codes "height") (cell_height * g.rows)
    ++ codes ">\n")))

-- the title
unfoldable pub title_text : GridView → List ℕ
title_text g = codes "<title>A screen of " ++ (size_words g ++ codes "</title>\n")

-- the description: the size again, and the cursor's place
unfoldable pub description_text : Screen → List ℕ
description_text s =
    codes "<desc>A text console of "
    ++ (size_words s.grid ++ (codes ". " ++ (cursor_words s.state ++ codes "</desc>\n")))

-- the text before the runs
unfoldable pub head_text : Screen → List ℕ
head_text s = opening_tag s.grid ++ (title_text s.grid ++ (description_text s ++ style))

-- the picture of a screen
abbrev pub picture_text : Screen → List ℕ
picture_text s =
    head_text s ++ (rows_text s.state 0 s.grid.cells ++ (cursor_text s ++ codes "</svg>\n"))
