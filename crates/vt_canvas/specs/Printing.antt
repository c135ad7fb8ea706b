-- Printing (console_codes(4)). The rules of the wrap flag and of characters of two columns are this project's
-- own.
use Rattle.std.specs.Prelude.{ℕ, Bool, false, ◌+◌, ◌-◌, ◌==◌, ◌&&◌, ◌||◌, nat_lt, List, [], ◌∷◌, ◌++◌, length, if◌then◌else◌}
use Rattle.vt_cells.specs.Width.{columns, half}
use Rattle.vt_chars.specs.CharMap.{char_of}
use Rattle.vt_grid.specs.Grid.{cells_of_codes}
use Rattle.vt_grid.specs.Halves.{with_cells_at}
use Rattle.vt_canvas.specs.Cursor.{at_column, linefeed}
use Rattle.vt_canvas.specs.Erasing.{cells_inserted}
use Rattle.vt_canvas.specs.Screen.{Screen, pen_byte}

-- a character of w columns doesn't end in the cursor's row
abbrev pub lacks_room : ℕ → Screen → Bool
lacks_room w s = nat_lt s.grid.cols (s.state.x + w)

-- if a wrap is pending, or the character doesn't end in this row, it goes to the start of the next row;
-- without autowrap, as near to this row's end as it fits
abbrev pub after_wrap : ℕ → Screen → Screen
after_wrap w s =
    if s.state.autowrap && (s.state.wrap || lacks_room w s) then linefeed (at_column 0 s)
    else if lacks_room w s then at_column (s.grid.cols - w) s
    else s

-- in insert mode as many blanks come in at the cursor
abbrev pub with_gap : ℕ → Screen → Screen
with_gap w s = if s.state.insert then cells_inserted w s else s

-- the codes of a character's cells: the second of two has the code of a half
abbrev pub codes_drawn : ℕ → ℕ → List ℕ
codes_drawn w code = if w == 2 then code ∷ half ∷ [] else code ∷ []

-- cells of these codes from the cursor on, and the cursor after them; if they end the row, the cursor is in
-- the last column, and with autowrap a wrap is pending
abbrev pub with_cells_at_cursor : List ℕ → Screen → Screen
with_cells_at_cursor codes s =
    let end = s.state.x + length codes in
    let has_next = nat_lt end s.grid.cols in
    record {
      grid = with_cells_at s.grid s.state.y s.state.x (cells_of_codes codes (pen_byte s));
      state = record s.state {
        x = if has_next then end else s.grid.cols - 1;
        wrap = if has_next then false else s.state.autowrap;
      };
    }

-- a character of w columns is printed; a row has at least as many
abbrev pub with_character : ℕ → ℕ → Screen → Screen
with_character w code s = with_cells_at_cursor (codes_drawn w code) (with_gap w (after_wrap w s))

-- a character of w columns is printed. One of no columns has no effect; one of two columns is printed as the
-- replacement character if rows have one column
unfoldable pub print : ℕ → ℕ → Screen → Screen
print w code s =
    if w == 0 then s
    else if w == 2 && s.grid.cols == 1 then with_character 1 0xFFFD s
    else with_character w code s

-- a character is printed in the columns that it takes
abbrev pub print_character : ℕ → Screen → Screen
print_character code s = print (columns code) code s

-- characters, one after another
abbrev pub print_characters : List ℕ → Screen → Screen
print_characters [] s = s
print_characters (code ∷ codes) s = print_characters codes (print_character code s)

-- the number of cells from the cursor to the end of its row, if no wrap is pending and insert mode is off:
-- characters that end there are printed at once
abbrev pub room : Screen → ℕ
room s = if s.state.wrap || s.state.insert then 0 else s.grid.cols - s.state.x

-- the codes of a character's cells, possibly none. No public clause names this
abbrev pub cells_codes : ℕ → ℕ → List ℕ
cells_codes w code = if w == 0 then [] else codes_drawn w code

-- the codes of the cells of characters, one after another. No public clause names this
abbrev pub cells_of_characters : List ℕ → List ℕ
cells_of_characters [] = []
cells_of_characters (code ∷ codes) = cells_codes (columns code) code ++ cells_of_characters codes

-- the table in use: the null mapping, or the one that is G0 or G1
abbrev pub table_of : Screen → ℕ
table_of s =
    if s.state.pen.alt then 2
    else if s.state.shift == 0 then s.state.g0
    else s.state.g1

-- a byte with its high bit changed
abbrev pub toggle_high_bit : ℕ → ℕ
toggle_high_bit b = if nat_lt b 0x80 then b + 0x80 else b - 0x80

-- the character that a byte is shown as
unfoldable pub character_of_byte : ℕ → Screen → ℕ
character_of_byte b s = char_of s.state.map (table_of s) (if s.state.pen.toggle then toggle_high_bit b else b)
