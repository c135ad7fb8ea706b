-- The effect of a feed.
use Rattle.std.specs.List.{flat_map}
use Rattle.std.specs.Prelude.{◌≡◌, ℕ, ◌+◌, ◌*◌, ◌/◌, ◌<◌, ◌≤◌, ◌++◌, List, length, map, take, drop, replicate}
use Rattle.c_calls.specs.Places.{with_items}
use Rattle.c_cells.specs.Cells.{c_cell}
use Rattle.c_cells.specs.declared.vt_cell.VtCell.{VtCell}
use Rattle.screen_c.specs.Shown.{c_out}
use Rattle.screen_c.specs.declared.vt_fed.VtFed.{VtFed}
use Rattle.screen_c.specs.declared.vt_out.VtOut.{VtOut}
use Rattle.vt_screen.specs.Falling.{AreWide, rows_of_run}
use Rattle.vt_screen.specs.Run.{after, outs_of_run}
use Rattle.vt_canvas.specs.Screen.{Screen}
use Rattle.vt_units.specs.Run.{Reached}

-- the first `taken` bytes were run, their `outs` outs stand in the first places in order, and the other places stay.
-- Bytes are left only if all places are full. Before the last byte that was run a place was left
pub record IsFed (m : Reached Screen) (bytes : List ℕ) (old new : List VtOut) (fed : VtFed) (end : Reached Screen)
    : Type 0 where
  pub within : fed.taken ≤ length bytes
  pub screen : end ≡ after m (take fed.taken bytes)
  pub places : new ≡ map c_out (outs_of_run m (take fed.taken bytes)) ++ drop fed.outs old
  pub count : fed.outs ≡ length (outs_of_run m (take fed.taken bytes))
  pub all : fed.outs < length old → fed.taken ≡ length bytes
  pub first : (k : ℕ) → k < fed.taken → length (outs_of_run m (take k bytes)) < length old
  pub rows : fed.rows ≡ 0
  pub spare : fed.spare ≡ replicate 1 0

-- so many rows of the screen have room in the places for cells
abbrev pub rows_fitting : List VtCell → Reached Screen → ℕ
rows_fitting places m = length places / m.state.grid.cols

-- the first `taken` bytes were run. Their `outs` outs, and the cells of the `rows` rows that fell out at the top of the
-- screen, stand in the first places in order, and the other places stay. Each row has as many cells as the screen has
-- columns. Bytes are left only if all places for outs are full, or fewer than two rows have room. Before the last byte
-- that was run a place was left, and room for two rows
pub record IsFedByRows (m : Reached Screen) (bytes : List ℕ) (old new : List VtOut) (cells_old cells_new : List VtCell)
    (fed : VtFed) (end : Reached Screen)
    : Type 0 where
  pub within : fed.taken ≤ length bytes
  pub screen : end ≡ after m (take fed.taken bytes)
  pub places : new ≡ map c_out (outs_of_run m (take fed.taken bytes)) ++ drop fed.outs old
  pub count : fed.outs ≡ length (outs_of_run m (take fed.taken bytes))
  pub cells : cells_new ≡ with_items (flat_map (map c_cell) (rows_of_run m (take fed.taken bytes))) cells_old
  pub rows : fed.rows ≡ length (rows_of_run m (take fed.taken bytes))
  pub wide : AreWide m.state.grid.cols (rows_of_run m (take fed.taken bytes))
  pub size : length (flat_map (map c_cell) (rows_of_run m (take fed.taken bytes))) ≡ fed.rows * m.state.grid.cols
  pub all : fed.outs < length old → fed.rows + 2 ≤ rows_fitting cells_old m → fed.taken ≡ length bytes
  pub first : (k : ℕ) → k < fed.taken → length (outs_of_run m (take k bytes)) < length old
  pub room : (k : ℕ) → k < fed.taken → length (rows_of_run m (take k bytes)) + 2 ≤ rows_fitting cells_old m
  pub spare : fed.spare ≡ replicate 1 0
