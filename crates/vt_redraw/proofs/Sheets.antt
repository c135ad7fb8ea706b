-- The rows of a screen, drawn if they differ.
use Rattle.std.proofs.Common.{◌≡◌, inl, ℕ, ◌+◌, ◌-◌, ◌<◌, ◌≤◌, ◌==◌, ◌&&◌, Bool, true, false, List, [], ◌∷◌, ◌++◌, length, refl, sym, subst, ap, append_assoc, arith}
use Rattle.std.specs.Prelude.{All, if◌then◌else◌}
use Rattle.std.specs.List.{list_all}
use Rattle.std.proofs.lemmas.Bool.{and_parts, cond-false, eqb-true, false≢true}
use Rattle.std.proofs.lemmas.List.{length-append}
use Rattle.std.proofs.lemmas.List.Elements.{All-head, All-tail}
use Rattle.vt_cells.specs.Width.{AtMostTwo}
use Rattle.vt_cells.specs.declared.cell.Cell.{Cell}
use Rattle.vt_grid.specs.Grid.{GridView, grid_view_of}
use Rattle.vt_redraw.proofs.Does.{Does, does_nothing, does_text, does_then, does_to}
use Rattle.vt_redraw.proofs.Moves.{place_does}
use Rattle.vt_redraw.proofs.Overlays.{sheet_with}
use Rattle.vt_redraw.proofs.Prints.{Brush, IsReady, after_columns, brushed, column_is}
use Rattle.vt_redraw.proofs.Rows.{RowDone, cells_do, same_cell}
use Rattle.vt_redraw.specs.Cells.{are_same, cells_text, changed_rows, row_text}
use Rattle.vt_redraw.specs.Drawable.{is_row_drawable}
use Rattle.vt_redraw.specs.Sequences.{place_text}
use Rattle.vt_canvas.specs.Cursor.{first_row, last_row}
use Rattle.vt_canvas.specs.Erasing.{with_grid}
use Rattle.vt_canvas.specs.Screen.{Screen}
use Rattle.vt_units.specs.Laws.{PrintablesAreCharacters, SequencesAreUnits}

-- rows that are the same, cell by cell
pub same_rows : (olds cells : List Cell) → are_same olds cells ≡ true → olds ≡ cells
same_rows [] [] is = refl
same_rows [] (c ∷ cells) is = absurd (false≢true is)
same_rows (o ∷ olds) [] is = absurd (false≢true is)
same_rows (o ∷ olds) (c ∷ cells) is =
    let parts = and_parts (o.code == c.code && o.attr == c.attr) (are_same olds cells) is in
    let here = and_parts (o.code == c.code) (o.attr == c.attr) parts.0 in
    λ i. same_cell c o.code o.attr (eqb-true o.code c.code here.0) (eqb-true o.attr c.attr here.1) i ∷ same_rows olds cells parts.1 i

-- these cells are drawn, and the brush is somewhere in the screen
pub record SheetDone (s : Screen) (g : GridView) (text : List ℕ) (from : Screen) : Type 0 where
  pub brush : Brush
  pub row : brush.y < g.rows
  pub does : Does text from (brushed (with_grid s g) brush)

module _ (s : Screen) (ready : IsReady s) (origin : s.state.origin ≡ false) (sequences : SequencesAreUnits) (printables : PrintablesAreCharacters) (most : AtMostTwo) where
  module _ (rows cols : ℕ) (some : 0 < cols) (few : cols ≤ 255) (short : rows ≤ 255) where
    -- the first column of a row
    start-does : (g : GridView) (y : ℕ) (b : Brush) → g.rows ≡ rows → g.cols ≡ cols → y < rows
        → Does (place_text y 0) (brushed (with_grid s g) b) (after_columns s g y 0 b.attr)
    start-does g y b tall wide within =
        let t : Screen = brushed (with_grid s g) b in
        let first : first_row t ≡ 0 = cond-false s.state.origin s.state.top 0 origin in
        let last : last_row t ≡ g.rows - 1 = cond-false s.state.origin s.state.bottom (g.rows - 1) origin in
        does_text (ap (λ (n : ℕ). place_text n 0) (let e : y ≡ y - first_row t = omega (arith, first) in e))
        (does_to (place_does sequences t y 0 (omega (arith, first)) (omega (arith, last, tall, within)) (omega (arith, within, short)) (omega (arith, wide, some)) (omega arith))
        (sym (column_is s g y 0 b.attr (omega (arith, wide, some)))))

    -- one row
    row-does : (above below : List (List Cell)) (old row : List Cell) (b : Brush) → length old ≡ cols → length row ≡ cols
        → is_row_drawable row ≡ true → length above < rows
        → SheetDone s (sheet_with rows cols above row below) (row_text (length above) row)
        (brushed (with_grid s (sheet_with rows cols above old below)) b)
    row-does above below old row b wide long drawable within =
        let done : RowDone s (sheet_with rows cols above row below) (length above) true (cells_text true 256 row)
        (after_columns s (sheet_with rows cols above old below) (length above) 0 b.attr) =
        cells_do s ready sequences printables most rows cols above below true row [] old 256 0 b.attr tt (omega (arith, wide, long)) (omega (arith, wide)) (inl refl) drawable in
        record {
          brush = record { y = length above; x = done.x; wrap = done.wrap; attr = done.attr };
          row = within;
          does = does_then (start-does (sheet_with rows cols above old below) (length above) b refl refl within) done.does;
        }

    sheet-first : {g : GridView} {one two : List ℕ} {from next : Screen} → Does one from next → SheetDone s g two next
        → SheetDone s g (one ++ two) from
    sheet-first one two = record { brush = two.brush; row = two.row; does = does_then one two.does }

    -- rows from one on
    pub rows-do : (above olds news : List (List Cell)) (b : Brush) → b.y < rows → All (λ row. length row ≡ cols) olds
        → All (λ row. length row ≡ cols) news → list_all is_row_drawable news ≡ true → length olds ≡ length news
        → length above + length news ≡ rows
        → SheetDone s (grid_view_of rows cols (above ++ news)) (changed_rows (length above) olds news)
        (brushed (with_grid s (grid_view_of rows cols (above ++ olds))) b)
    rows-do above [] [] b inside wide long drawable count fits = record {
      brush = b;
      row = inside;
      does = does_nothing _;
    }
    rows-do above (old ∷ olds) [] b inside wide long drawable count fits = absurd (omega (arith, count))
    rows-do above [] (row ∷ news) b inside wide long drawable count fits = absurd (omega (arith, count))
    rows-do above (old ∷ olds) (row ∷ news) b inside wide long drawable count fits =
        let width = λ (r : List Cell). length r ≡ cols in
        let parts = and_parts (is_row_drawable row) (list_all is_row_drawable news) drawable in
        let next : (c : Brush) → c.y < rows
        → SheetDone s (grid_view_of rows cols ((above ++ row ∷ []) ++ news)) (changed_rows (length (above ++ row ∷ [])) olds news)
        (brushed (with_grid s (grid_view_of rows cols ((above ++ row ∷ []) ++ olds))) c) =
        λ c low.
        rows-do (above ++ row ∷ []) olds news c low (All-tail width old olds wide) (All-tail width row news long) parts.1 (omega (arith, count))
        (omega (arith, length-append above (row ∷ []), fits)) in
        by (are_same old row) refl (λ c low. same c (next c low))
        (row-does above olds old row b (All-head width old olds wide) (All-head width row news long) parts.0 (omega (arith, fits)))
      where
        After : Brush → Type 0
        After c =
            SheetDone s (grid_view_of rows cols (above ++ row ∷ news)) (changed_rows (length above + 1) olds news)
            (brushed (with_grid s (grid_view_of rows cols (above ++ row ∷ olds))) c)

        same : (c : Brush)
            → SheetDone s (grid_view_of rows cols ((above ++ row ∷ []) ++ news)) (changed_rows (length (above ++ row ∷ [])) olds news)
            (brushed (with_grid s (grid_view_of rows cols ((above ++ row ∷ []) ++ olds))) c)
            → After c
        same c done =
            subst (λ (all : List (List Cell)). SheetDone s (grid_view_of rows cols all) (changed_rows (length above + 1) olds news) (brushed (with_grid s (grid_view_of rows cols (above ++ row ∷ olds))) c))
            (append_assoc above (row ∷ []) news)
            (subst (λ (all : List (List Cell)). SheetDone s (grid_view_of rows cols ((above ++ row ∷ []) ++ news)) (changed_rows (length above + 1) olds news) (brushed (with_grid s (grid_view_of rows cols all)) c))
            (append_assoc above (row ∷ []) olds)
            (subst (λ (n : ℕ). SheetDone s (grid_view_of rows cols ((above ++ row ∷ []) ++ news)) (changed_rows n olds news) (brushed (with_grid s (grid_view_of rows cols ((above ++ row ∷ []) ++ olds))) c))
            (length-append above (row ∷ [])) done))

        by : (t : Bool) → are_same old row ≡ t → ((c : Brush) → c.y < rows → After c)
            → SheetDone s (sheet_with rows cols above row olds) (row_text (length above) row) (brushed (with_grid s (sheet_with rows cols above old olds)) b)
            → SheetDone s (grid_view_of rows cols (above ++ row ∷ news))
            ((if t then [] else row_text (length above) row) ++ changed_rows (length above + 1) olds news)
            (brushed (with_grid s (grid_view_of rows cols (above ++ old ∷ olds))) b)
        by true test next drawn_row =
            subst (λ (r : List Cell). SheetDone s (grid_view_of rows cols (above ++ row ∷ news)) (changed_rows (length above + 1) olds news) (brushed (with_grid s (grid_view_of rows cols (above ++ r ∷ olds))) b))
            (sym (same_rows old row test)) (next b inside)
        by false test next drawn_row = sheet-first drawn_row.does (next drawn_row.brush drawn_row.row)
