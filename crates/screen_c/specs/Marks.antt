-- The rows that differ from the marked cells.
use Rattle.std.specs.Prelude.{◌≡◌, ℕ, Bool, true, false, not, ◌&&◌, ◌==◌, List, map, Option, Some, None, if◌then◌else◌}
use Rattle.std.specs.List.{range_with_len}
use Rattle.c_calls.specs.Flags.{c_flag}
use Rattle.vt_grid.specs.Grid.{GridView, row_at}
use Rattle.vt_redraw.specs.Cells.{are_same}
use Rattle.vt_redraw.specs.Redraw.{IsSameSize, changes_of, redraw_of}
use Rattle.vt_canvas.specs.Screen.{Screen}

-- both have as many rows and columns
abbrev pub is_same_size : GridView → GridView → Bool
is_same_size mark grid = mark.rows == grid.rows && mark.cols == grid.cols

-- row y equals the marked one
abbrev pub is_as_marked : GridView → GridView → ℕ → Bool
is_as_marked mark grid y = is_same_size mark grid && are_same (row_at mark y) (row_at grid y)

-- row y differs from the marked one, or no cells are marked
abbrev pub is_changed : Option GridView → GridView → ℕ → Bool
is_changed None grid y = true
is_changed (Some mark) grid y = not (is_as_marked mark grid y)

-- whether each row differs, from the top, as 1 or 0
abbrev pub changed_flags : Option GridView → GridView → List ℕ
changed_flags mark grid = map (λ y. c_flag (is_changed mark grid y)) (range_with_len 0 grid.rows)

-- the text that draws the screen on one that shows the marked cells, or on any of its size if no cells of this size
-- are marked
abbrev pub text_from_mark : Option GridView → Screen → List ℕ
text_from_mark None s = redraw_of s
text_from_mark (Some mark) s = if is_same_size mark s.grid then changes_of mark s else redraw_of s

-- the other screen shows the marked cells; if no cells of this screen's size are marked, it has this screen's size
abbrev pub IsAtMarkIf : Bool → GridView → GridView → GridView → Type 0
IsAtMarkIf true mark grid other = other ≡ mark
IsAtMarkIf false mark grid other = IsSameSize other grid

-- the same for a screen that may have no marked cells
abbrev pub IsAtMark : Option GridView → GridView → GridView → Type 0
IsAtMark None grid other = IsSameSize other grid
IsAtMark (Some mark) grid other = IsAtMarkIf (is_same_size mark grid) mark grid other
