-- The rows of a screen as the cells of characters.
use Rattle.std.specs.Prelude.{◌≡◌, ◌<◌, ◌==◌, ℕ, Bool, true, false, List, [], ◌∷◌, All}
use Rattle.vt_cells.specs.Width.{columns, is_half}
use Rattle.vt_cells.specs.declared.cell.Cell.{Cell}
use Rattle.vt_screen.specs.Run.{start, with_outs}
use Rattle.vt_screen.specs.Tape.{Taped, byte, change, run_tape}
use Rattle.vt_canvas.specs.Change.{Change, palette, resize, user_map}

-- right of each character of two columns stands its right half, with the same byte, and nowhere else stands
-- one. It is given whether the cells follow such a character, and its byte
abbrev pub AreCharacters : Bool → ℕ → List Cell → Type 0
AreCharacters wide attr [] = wide ≡ false
AreCharacters true attr (c ∷ cells) = (is_half c ≡ true) × (c.attr ≡ attr) × AreCharacters false 0 cells
AreCharacters false attr (c ∷ cells) = (is_half c ≡ false) × AreCharacters (columns c.code == 2) c.attr cells

-- a byte, and a change whose words for the user's table have 16 bits and don't take two columns
abbrev pub IsNarrowChange : Change → Type 0
IsNarrowChange (user_map words) = All (λ word. (word < 65536) × (columns word < 2)) words
IsNarrowChange (palette colours) = Unit {0}
IsNarrowChange (resize rows cols) = Unit {0}

abbrev pub IsNarrowTaped : Taped → Type 0
IsNarrowTaped (byte b) = b < 256
IsNarrowTaped (change m) = IsNarrowChange m

-- the rows of every screen that bytes and such changes make from a start are the cells of characters
abbrev pub TapesKeepCharacters : Type 0
TapesKeepCharacters =
    (rows cols : ℕ) (tape : List Taped) → All IsNarrowTaped tape
    → All (AreCharacters false 0) (run_tape tape (with_outs [] (start rows cols))).state.screen.grid.cells
