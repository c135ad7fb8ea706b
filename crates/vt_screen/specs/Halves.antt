-- The places of the right halves of characters on a screen.
use Rattle.std.specs.Prelude.{◌≡◌, ◌<◌, ◌==◌, ℕ, Bool, true, false, List, [], ◌∷◌, All}
use Rattle.vt_cells.specs.Width.{columns, is_half}
use Rattle.vt_cells.specs.declared.cell.Cell.{Cell}
use Rattle.vt_grid.specs.Halves.{IsPaired}
use Rattle.vt_screen.specs.Run.{with_outs, start}
use Rattle.vt_screen.specs.Tape.{Taped, byte, change, run_tape}
use Rattle.vt_canvas.specs.Change.{Change, palette, resize, user_map}

-- a byte, and a change whose words for the user's table have 16 bits
abbrev pub IsPlainChange : Change → Type 0
IsPlainChange (user_map words) = All (λ word. word < 65536) words
IsPlainChange (palette colours) = Unit {0}
IsPlainChange (resize rows cols) = Unit {0}

abbrev pub IsPlainTaped : Taped → Type 0
IsPlainTaped (byte b) = b < 256
IsPlainTaped (change m) = IsPlainChange m

-- in every screen that bytes and changes make from a start, no half stands in column 0 or right of a half
abbrev pub TapesKeepHalves : Type 0
TapesKeepHalves =
    (rows cols : ℕ) (tape : List Taped) → All IsPlainTaped tape
    → IsPaired (run_tape tape (with_outs [] (start rows cols))).state.screen.grid

-- each half among these cells follows the cell of a character of two columns. It is given whether the cells
-- themselves follow one
abbrev pub FollowWide : Bool → List Cell → Type 0
FollowWide after_wide [] = Unit {0}
FollowWide after_wide (c ∷ cells) =
    (is_half c ≡ true → after_wide ≡ true) × FollowWide (columns c.code == 2) cells

-- in every screen that bytes and changes make from a start, the cell of a character of two columns stands
-- left of each half, in the same row
abbrev pub HalvesFollowWide : Type 0
HalvesFollowWide =
    (rows cols : ℕ) (tape : List Taped) → All IsPlainTaped tape
    → All (FollowWide false) (run_tape tape (with_outs [] (start rows cols))).state.screen.grid.cells
