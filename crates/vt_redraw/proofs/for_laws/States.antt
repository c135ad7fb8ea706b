-- The text of the state, and the whole text.
use Rattle.std.proofs.Common.{◌≡◌, ◌⊎◌, inl, inr, ℕ, zero, suc, ◌+◌, ◌-◌, ◌<◌, ◌≤◌, nat_lt, Bool, true, false, List, [], ◌∷◌, ◌++◌, length, take, drop, get_or, replicate, refl, sym, ap, ◌∙◌, append-nil, cond, arith}
use Rattle.std.specs.Prelude.{IsTrue, if◌then◌else◌}
use Rattle.std.specs.List.{list_all}
use Rattle.std.proofs.lemmas.Bool.{and_parts, cond-true, cond-false, le-ltb, lt-ltb}
use Rattle.std.proofs.lemmas.List.{drop_all, drop_more, length-take-le, take-append-drop}
use Rattle.vt_cells.specs.Rendition.{Rendition}
use Rattle.vt_cells.specs.Width.{AtMostTwo}
use Rattle.vt_cells.specs.declared.cell.Cell.{Cell}
use Rattle.vt_chars.specs.Utf8.{within}
use Rattle.vt_grid.specs.Grid.{IsFull, GridView, filled_grid, row_at, grid_view_of}
use Rattle.vt_redraw.proofs.Does.{Does, does_from, does_nothing, does_text, does_then, does_to}
use Rattle.vt_redraw.proofs.Moves.{at, autowrap_does, coding_does, insert_does, origin_does, place_does, region_does, save_does, shift_does, tables_does}
use Rattle.vt_redraw.proofs.Numbers.{sequence_does}
use Rattle.vt_redraw.proofs.Overlays.{sheet_with}
use Rattle.vt_redraw.proofs.Paints.{attributes_does}
use Rattle.vt_redraw.proofs.for_laws.Pens.{pair_does}
use Rattle.vt_redraw.proofs.Prints.{Brush, IsReady, after_columns, brushed, column_is}
use Rattle.vt_redraw.proofs.Rows.{RowDone, cells_do}
use Rattle.vt_redraw.specs.Cells.{cells_text}
use Rattle.vt_redraw.specs.Drawable.{is_row_drawable}
use Rattle.vt_redraw.specs.Sequences.{place_text}
use Rattle.vt_redraw.specs.State.{clearing_text, cursor_text, region_text, row_number, saved_text, setting_text}
use Rattle.vt_canvas.specs.Cursor.{first_row, cursor_home, last_row, cursor_to, cursor_to_in_region}
use Rattle.vt_canvas.specs.Effect.{control_sequence}
use Rattle.vt_canvas.specs.Erasing.{erase_display, rows_erased, with_grid}
use Rattle.vt_canvas.specs.Saying.{without_out}
use Rattle.vt_canvas.specs.Screen.{Screen, erased_byte, start_blank, with_state}
use Rattle.vt_canvas.specs.Settings.{after_shift, save}
use Rattle.vt_canvas.specs.declared.saved.Saved.{Saved}
use Rattle.vt_canvas.specs.declared.screen_state.ScreenState.{ScreenState}
use Rattle.vt_sgr.specs.PenState.{with_attributes as with_attr, with_mapping}
use Rattle.vt_units.specs.Laws.{ControlsAreUnits, PrintablesAreCharacters, SequencesAreUnits}

-- the modes that rows are drawn in
abbrev pub settled : Screen → Screen
settled t =
    with_state t
    (record t.state {
      utf8 = true;
      shift = 0;
      pen = with_mapping t.state.pen false false false;
      insert = false;
      origin = false;
      autowrap = true;
    })

-- what is saved
abbrev pub saved_as : Saved → Screen → Screen
saved_as v t =
    with_state t
    (record t.state {
      y = v.y;
      x = v.x;
      wrap = false;
      g0 = v.g0;
      g1 = v.g1;
      shift = v.shift;
      pen = with_mapping (with_attr t.state.pen v.attr) false false false;
      saved = v;
    })

module _ (sequences : SequencesAreUnits) (controls : ControlsAreUnits) where
  pub setting_does : (t : Screen) → Does setting_text t
      (brushed (settled t) (record { y = (cursor_home (settled t)).state.y; x = (cursor_home (settled t)).state.x; wrap = false; attr = t.state.pen.attr }))
  unfolding after_shift cursor_to_in_region cursor_to
  setting_does t =
      does_then (coding_does sequences true t)
      (does_then (shift_does controls 0 (omega arith) _)
      (does_then (insert_does sequences false _)
      (does_then (origin_does sequences false _)
      (autowrap_does sequences true _))))

  pub settled_row : (t : Screen) → 0 < t.grid.rows → (cursor_home (settled t)).state.y < t.grid.rows
  unfolding cursor_to_in_region cursor_to
  settled_row t some = omega (arith, some)

  -- every cell is blank
  pub clearing_does : (t : Screen) (b : Brush) → IsFull t.grid
      → Does clearing_text (brushed t b)
      (brushed (with_grid t (filled_grid t.grid.rows t.grid.cols start_blank)) (record { y = b.y; x = b.x; wrap = false; attr = record b.attr { fg = 7; bg = 0 } }))
  unfolding control_sequence erase_display rows_erased erased_byte
  clearing_does t b full =
      let left : drop (0 + t.grid.rows) t.grid.cells ≡ [] = drop_all (0 + t.grid.rows) t.grid.cells (omega (arith, full.tall)) in
      let cells : replicate t.grid.rows (replicate t.grid.cols start_blank) ++ drop (0 + t.grid.rows) t.grid.cells
      ≡ replicate t.grid.rows (replicate t.grid.cols start_blank) =
      ap (λ (rest : List (List Cell)). replicate t.grid.rows (replicate t.grid.cols start_blank) ++ rest) left
      ∙ append-nil (replicate t.grid.rows (replicate t.grid.cols start_blank)) in
      does_then (pair_does sequences 7 0 (omega arith) (omega arith) (brushed t b))
      (sequence_does sequences 2 [] 0x4A (omega arith) tt (omega arith) refl refl _ _
      (ap (λ (rows : List (List Cell)). without_out (brushed (with_grid t (grid_view_of t.grid.rows t.grid.cols rows)) (record { y = b.y; x = b.x; wrap = false; attr = record b.attr { fg = 7; bg = 0 } }))) cells))

  pub saved_does : (v : Saved) (t : Screen) → t.state.origin ≡ false → v.attr.fg < 8 → v.attr.bg < 8 → v.g0 < 4 → v.g1 < 4
      → v.shift ≤ 1 → v.y < t.grid.rows → v.x < t.grid.cols → t.grid.rows ≤ 255 → t.grid.cols ≤ 255
      → Does (saved_text v) t (saved_as v t)
  unfolding save
  saved_does v t origin fg bg g0 g1 shift row column rows cols =
      let first : first_row t ≡ 0 = cond-false t.state.origin t.state.top 0 origin in
      let last : last_row t ≡ t.grid.rows - 1 = cond-false t.state.origin t.state.bottom (t.grid.rows - 1) origin in
      let u : Screen =
      with_state t
      (record t.state {
        g0 = v.g0;
        g1 = v.g1;
        shift = v.shift;
        pen = with_mapping (with_attr t.state.pen v.attr) false false false;
      }) in
      does_then (attributes_does sequences v.attr fg bg t)
      (does_then (tables_does sequences controls v.g0 v.g1 v.shift g0 g1 shift _)
      (does_then
      (does_text (ap (λ (n : ℕ). place_text n v.x) (let e : v.y ≡ v.y - first_row t = omega (arith, first) in e))
      (place_does sequences u v.y v.x (omega (arith, first)) (omega (arith, last, row)) (omega (arith, row, rows)) column (omega (arith, column, cols))))
      (save_does sequences (at v.y v.x u))))

  -- the region and the mode of origin, which home the cursor
  pub regions_do : (v : ScreenState) (t : Screen) → (v.top < v.bottom) ⊎ ((v.top ≡ t.state.top) × (v.bottom ≡ t.state.bottom) × (v.bottom ≤ v.top))
      → v.bottom < t.grid.rows → t.grid.rows ≤ 255
      → Does (region_text v) t (cursor_home (with_state t (record t.state { top = v.top; bottom = v.bottom; origin = v.origin })))
  unfolding cursor_to_in_region cursor_to
  regions_do v t (inl order) within rows =
      does_then
      (does_text (cond-true (nat_lt v.top v.bottom) _ _ (lt-ltb v.top v.bottom order)) (region_does sequences v.top v.bottom t order within rows))
      (origin_does sequences v.origin _)
  regions_do v t (inr same) within rows =
      does_then
      (does_text (cond-false (nat_lt v.top v.bottom) _ _ (le-ltb v.top v.bottom same.2))
      (does_to (does_nothing t) (λ i. with_state t (record t.state { top = sym same.0 i; bottom = sym same.1 i }))))
      (origin_does sequences v.origin _)

-- the cursor is there, and a wrap is pending or not
pub record CursorDone (v : ScreenState) (text : List ℕ) (t : Screen) : Type 0 where
  pub attr : Rendition
  pub does : Does text t
      (with_state t (record t.state { y = v.y; x = v.x; wrap = v.wrap; pen = with_attr t.state.pen attr }))

-- a sheet is its rows above one, that one and those below
parts_are : (rows : List (List Cell)) (y : ℕ) → y < length rows → take y rows ++ get_or rows y [] ∷ drop (y + 1) rows ≡ rows
parts_are rows y h =
    ap (λ (more : List (List Cell)). take y rows ++ more) (sym (drop_more rows y [] h)) ∙ take-append-drop y rows

row_holds : (rows : List (List Cell)) (y : ℕ) → y < length rows → list_all is_row_drawable rows ≡ true → is_row_drawable (get_or rows y []) ≡ true
row_holds [] y h all = absurd (omega (arith, h))
row_holds (row ∷ rows) zero h all = (and_parts (is_row_drawable row) (list_all is_row_drawable rows) all).0
row_holds (row ∷ rows) (suc y) h all =
    row_holds rows y (omega (arith, h)) (and_parts (is_row_drawable row) (list_all is_row_drawable rows) all).1

module _ (sequences : SequencesAreUnits) (printables : PrintablesAreCharacters) (most : AtMostTwo) where
  -- a row is drawn once more, to its end
  again-does : (t : Screen) (y : ℕ) (b : Brush) → IsReady t → IsFull t.grid → y < t.grid.rows → 0 < t.grid.cols
      → list_all is_row_drawable t.grid.cells ≡ true
      → (a : Rendition)
      × Does (cells_text false 256 (row_at t.grid y)) (after_columns t t.grid y 0 b.attr)
      (brushed t (record { y = y; x = t.grid.cols - 1; wrap = true; attr = a }))
  again-does t y b ready full within some drawable =
      let g : GridView = t.grid in
      let row : List Cell = row_at g y in
      let above : List (List Cell) = take y g.cells in
      let below : List (List Cell) = drop (y + 1) g.cells in
      let inside : y < length g.cells = omega (arith, full.tall, within) in
      let wide : length row ≡ g.cols = full.wide y [] inside in
      let place : length above ≡ y = length-take-le y g.cells (omega (arith, inside)) in
      let same : sheet_with g.rows g.cols above row below ≡ g = ap (grid_view_of g.rows g.cols) (parts_are g.cells y inside) in
      let done : RowDone t (sheet_with g.rows g.cols above row below) (length above) false (cells_text false 256 row)
      (after_columns t (sheet_with g.rows g.cols above row below) (length above) 0 b.attr) =
      cells_do t ready sequences printables most g.rows g.cols above below false row [] row 256 0 b.attr tt refl (omega (arith, wide)) (inl refl) (row_holds g.cells y inside drawable) in
      let ends = done.ends refl in (
        done.attr,
        does_from (λ i. after_columns t (sym same i) (sym place i) 0 b.attr)
            (does_to done.does
            (λ i. brushed (with_grid t (same i)) (record { y = place i; x = ends.0 i; wrap = ends.1 i; attr = done.attr }))),
      )

-- the first row that a move reaches
first_is : (v : ScreenState) (t : Screen) → t.state.top ≡ v.top → t.state.origin ≡ v.origin
    → first_row t ≡ cond v.origin v.top 0
first_is v t top origin = λ i. cond (origin i) (top i) 0

reaches : (o : Bool) (top bottom rows y : ℕ) → y < rows → (IsTrue o → (top ≤ y) × (y ≤ bottom))
    → (cond o top 0 ≤ y) × (y ≤ cond o bottom (rows - 1))
reaches true top bottom rows y h inside = inside refl
reaches false top bottom rows y h inside = (omega arith, omega (arith, h))

module _ (sequences : SequencesAreUnits) (printables : PrintablesAreCharacters) (most : AtMostTwo) where
  pub cursor_does : (v : ScreenState) (t : Screen) → IsReady t → IsFull t.grid → list_all is_row_drawable t.grid.cells ≡ true
      → t.state.top ≡ v.top → t.state.bottom ≡ v.bottom → t.state.origin ≡ v.origin
      → v.y < t.grid.rows → v.x < t.grid.cols → (IsTrue v.wrap → v.x + 1 ≡ t.grid.cols)
      → (IsTrue v.origin → (v.top ≤ v.y) × (v.y ≤ v.bottom)) → t.grid.rows ≤ 255 → t.grid.cols ≤ 255
      → CursorDone v (cursor_text (record { grid = t.grid; state = v })) t
  cursor_does v t ready full drawable top bottom origin row column last inside rows cols = by v.wrap refl
    where
      first : first_row t ≡ cond v.origin v.top 0
      first = first_is v t top origin

      bounds : (cond v.origin v.top 0 ≤ v.y) × (v.y ≤ cond v.origin v.bottom (t.grid.rows - 1))
      bounds = reaches v.origin v.top v.bottom t.grid.rows v.y row inside

      low : first_row t ≤ v.y
      low = omega (arith, first, bounds.0)

      lowest : last_row t ≡ cond v.origin v.bottom (t.grid.rows - 1)
      lowest = λ i. cond (origin i) (bottom i) (t.grid.rows - 1)

      high : v.y ≤ last_row t
      high = omega (arith, lowest, bounds.1)

      -- to a column of the row
      placed-does : (x : ℕ) → x < t.grid.cols → Does (place_text (row_number v) x) t (at v.y x t)
      placed-does x h =
          does_text (ap (λ (n : ℕ). place_text (v.y - n) x) (sym first))
          (place_does sequences t v.y x low high (omega (arith, row, rows)) h (omega (arith, h, cols)))

      by : (w : Bool) → v.wrap ≡ w
          → CursorDone v
          (if w then place_text (row_number v) 0 ++ cells_text false 256 (row_at t.grid v.y)
          else place_text (row_number v) v.x) t
      by false test = record {
        attr = t.state.pen.attr;
        does =
            does_to (placed-does v.x column)
            (ap (λ (w : Bool). with_state t (record t.state { y = v.y; x = v.x; wrap = w })) (sym test));
      }
      by true test =
          let some : 0 < t.grid.cols = omega (arith, column) in
          let b : Brush = record { y = v.y; x = 0; wrap = false; attr = t.state.pen.attr } in
          let again = again-does sequences printables most t v.y b ready full row some drawable in
          let place : t.grid.cols - 1 ≡ v.x = (let e : v.x + 1 ≡ t.grid.cols = last test in omega (arith, e)) in
          record {
            attr = again.0;
            does =
                does_then
                (does_to (placed-does 0 some) (sym (column_is t t.grid v.y 0 t.state.pen.attr some)))
                (does_to again.1
                (λ i. with_state t (record t.state { y = v.y; x = place i; wrap = sym test i; pen = with_attr t.state.pen again.0 })));
          }
