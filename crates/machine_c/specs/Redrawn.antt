-- The results of a call that draws a screen again.
use Rattle.std.specs.Prelude.{◌≡◌, ◌⊎◌, ◌≤◌, ℕ, Bool, true, false, IsTrue, List, take}
use Rattle.machine_c.specs.Cells.{AreCellsOf, grid_of}
use Rattle.c_calls.specs.Codes.{NO_ROOM, NOT_DRAWABLE, OK, RANGE}
use Rattle.c_calls.specs.Text.{HandsOver}
use Rattle.c_cells.specs.declared.vt_cell.VtCell.{VtCell}
use Rattle.vt_canvas.specs.Screen.{IsWhole, Screen}
use Rattle.vt_grid.specs.Grid.{GridView}
use Rattle.vt_redraw.specs.Drawable.{is_redrawable}
use Rattle.vt_redraw.specs.Lengths.{redraw_most}
use Rattle.vt_redraw.specs.Near.{near}
use Rattle.vt_redraw.specs.Redraw.{IsSameSize, Redraws, changes_of, redraw_of}

-- nothing is written
abbrev pub Refuses : List ℕ → List ℕ → ℕ → ℕ → ℕ → ℕ → Type 0
Refuses old new old_count count refusal code = (code ≡ refusal) × (new ≡ old) × (count ≡ old_count)

-- a length that is written is at most that of the longest text for a screen of this size
abbrev pub IsShort : Screen → ℕ → ℕ → Type 0
IsShort s count code = (code ≡ OK) ⊎ (code ≡ NO_ROOM) → count ≤ redraw_most s.grid.rows s.grid.cols

-- a screen that no text draws is refused; the text of any other is handed over, and draws it on every screen of its
-- size
pub record Draws (s : Screen) (old new : List ℕ) (old_count count code : ℕ) : Type 0 where
  pub undrawable : is_redrawable s ≡ false → Refuses old new old_count count NOT_DRAWABLE code
  pub text : IsTrue (is_redrawable s) → HandsOver (redraw_of s) old new old_count count code
  pub again :
      code ≡ OK → (other : Screen) → IsWhole other → IsSameSize other.grid s.grid → Redraws s other (take count new)
  pub short : IsShort s count code

-- the text of the nearest screen that a text draws is handed over, and draws that one
pub record DrawsNear (s : Screen) (old new : List ℕ) (old_count count code : ℕ) : Type 0 where
  pub text : HandsOver (redraw_of (near s)) old new old_count count code
  pub again :
      code ≡ OK → (other : Screen) → IsWhole other → IsSameSize other.grid s.grid
      → Redraws (near s) other (take count new)
  pub short : IsShort s count code

-- the same for this screen, or for the nearest that a text draws
abbrev pub DrawsAs : Bool → Screen → List ℕ → List ℕ → ℕ → ℕ → ℕ → Type 0
DrawsAs false s old new old_count count code = Draws s old new old_count count code
DrawsAs true s old new old_count count code = DrawsNear s old new old_count count code

-- the text draws this screen on every screen with these cells
abbrev pub DrawsOver : GridView → Screen → List ℕ → Type 0
DrawsOver grid s text = (other : Screen) → IsWhole other → other.grid ≡ grid → Redraws s other text

-- cells of another size are refused, and then a screen that no text draws; else the rows that differ are handed over,
-- and draw the screen on every one with these cells
pub record DrawsFrom (s : Screen) (shown : List VtCell) (cols : ℕ) (old new : List ℕ) (old_count count code : ℕ)
    : Type 0 where
  pub range : ¬ AreCellsOf s.grid shown cols → Refuses old new old_count count RANGE code
  pub undrawable :
      AreCellsOf s.grid shown cols → is_redrawable s ≡ false → Refuses old new old_count count NOT_DRAWABLE code
  pub text :
      AreCellsOf s.grid shown cols → IsTrue (is_redrawable s)
      → HandsOver (changes_of (grid_of s.grid.rows s.grid.cols shown) s) old new old_count count code
  pub again : code ≡ OK → DrawsOver (grid_of s.grid.rows s.grid.cols shown) s (take count new)
  pub short : IsShort s count code

-- the same for the nearest screen that a text draws
pub record DrawsNearFrom (s : Screen) (shown : List VtCell) (cols : ℕ) (old new : List ℕ) (old_count count code : ℕ)
    : Type 0 where
  pub range : ¬ AreCellsOf s.grid shown cols → Refuses old new old_count count RANGE code
  pub text :
      AreCellsOf s.grid shown cols
      → HandsOver (changes_of (grid_of s.grid.rows s.grid.cols shown) (near s)) old new old_count count code
  pub again : code ≡ OK → DrawsOver (grid_of s.grid.rows s.grid.cols shown) (near s) (take count new)
  pub short : IsShort s count code

-- one of these two
abbrev pub DrawsAsFrom : Bool → Screen → List VtCell → ℕ → List ℕ → List ℕ → ℕ → ℕ → ℕ → Type 0
DrawsAsFrom false s shown cols old new old_count count code = DrawsFrom s shown cols old new old_count count code
DrawsAsFrom true s shown cols old new old_count count code = DrawsNearFrom s shown cols old new old_count count code
