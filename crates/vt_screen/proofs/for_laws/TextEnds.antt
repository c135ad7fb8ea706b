-- A text of printable characters on the start screen: its end, and all of it if it has room.
use Rattle.std.proofs.Common.{◌≡◌, ℕ, zero, suc, ◌+◌, ◌-◌, ◌*◌, ◌<◌, ◌≤◌, true, List, [], ◌∷◌, ◌++◌, length, map, take, drop, replicate, inl, inr, refl, sym, subst, ap, ◌∙◌, append_assoc, arith}
use Rattle.std.specs.Prelude.{All}
use Rattle.std.proofs.Math.Seq.{drop-append_seam}
use Rattle.std.proofs.lemmas.Bool.{cases_lt}
use Rattle.std.proofs.lemmas.List.{append-nil, drop-map, length-append, length-drop, length-take-le, take-append-drop}
use Rattle.std.proofs.lemmas.List.Concat.{flat_map-append}
use Rattle.std.proofs.lemmas.List.Elements.{All-head}
use Rattle.vt_cells.specs.Width.{LowTakeOne}
use Rattle.vt_cells.specs.declared.cell.Cell.{Cell}
use Rattle.vt_grid.specs.Grid.{GridView, filled_grid, with_cell}
use Rattle.vt_grid.specs.Laws.{RunOfMore, RunOfNone}
use Rattle.vt_screen.proofs.Printed.{AllPrintable, fresh_behind, printables_run}
use Rattle.vt_screen.proofs.for_laws.TextRows.{Holds, at_start, grown, holds_none, joined, printables}
use Rattle.vt_screen.proofs.TextSteps.{at, full_turned, narrow_turned, step_below, step_here, step_scroll, turned}
use Rattle.vt_canvas.specs.Printing.{print_character, print_characters}
use Rattle.vt_screen.specs.Run.{ScreenAndOuts}
use Rattle.vt_canvas.specs.Screen.{Screen, start_blank, start_screen}
use Rattle.vt_screen.specs.TextRows.{ShowsEnd, ShowsText, TextFillsRows, TextScrolls, all_cells, start_cell}
use Rattle.vt_units.specs.Bytes.{is_printable}
use Rattle.vt_units.specs.Laws.{PrintablesAreCharacters}
use Rattle.vt_units.specs.Rest.{Rest, fresh, start_mode}
use Rattle.vt_units.specs.Run.{Reached}

-- the first row goes, and another comes in below
joined-turned : (cols : ℕ) (rows : List (List Cell)) (row : List Cell) → All (λ r. length r ≡ cols) rows → 0 < length rows
    → joined (drop 1 rows ++ row ∷ []) ≡ drop cols (joined rows) ++ row
joined-turned cols [] row wide some = absurd (omega (arith, some))
joined-turned cols (first ∷ rows) row wide some =
    let long : length first ≡ cols = All-head (λ r. length r ≡ cols) first rows wide in
    let gone : drop cols (first ++ joined rows) ≡ joined rows =
    ap (λ (n : ℕ). drop n (first ++ joined rows)) (sym long) ∙ drop-append_seam first (joined rows) in
    flat_map-append (λ (r : List Cell). r) rows (row ∷ [])
    ∙ ap (λ (cells : List Cell). joined rows ++ cells) (append-nil row)
    ∙ ap (λ (cells : List Cell). cells ++ row) (sym gone)

-- of cells that are all a text's, those of its end, and blanks
cells_turned : (n cols : ℕ) (done : List ℕ) (cells : List Cell) → length done ≡ n → cols ≤ n
    → cells ≡ map start_cell done ++ replicate (n - length done) start_blank
    → drop cols cells ++ replicate cols start_blank
    ≡ map start_cell (drop cols done) ++ replicate (n - length (drop cols done)) start_blank
cells_turned n cols done cells all within are =
    let none : n - length done ≡ zero = omega (arith, all) in
    let blanks : cols ≡ n - length (drop cols done) = omega (arith, all, within, length-drop cols done) in
    let whole : cells ≡ map start_cell done =
    are ∙ ap (λ (k : ℕ). map start_cell done ++ replicate k start_blank) none ∙ append-nil (map start_cell done) in
    ap (λ (list : List Cell). drop cols list ++ replicate cols start_blank) whole
    ∙ ap (λ (list : List Cell). list ++ replicate cols start_blank) (drop-map start_cell cols done)
    ∙ ap (λ (k : ℕ). map start_cell (drop cols done) ++ replicate k start_blank) blanks

shown_all : (g : GridView) (done : List ℕ) (y count : ℕ) → Holds g done y count → ShowsText g.rows g.cols done (at g y count)
shown_all g done y count h = record {
  size = (refl, refl);
  full = h.full;
  cells = h.cells;
  y = y;
  columns = count;
  place = h.place;
  within = h.within;
  some = h.some;
  state = refl;
}

-- where the first cols of the characters on the screen are lost, and one comes in
lost_more : (above done left : List ℕ) (b cols : ℕ)
    → (above ++ take cols done) ++ ((drop cols done ++ b ∷ []) ++ left) ≡ above ++ (done ++ b ∷ left)
lost_more above done left b cols =
    append_assoc above (take cols done) ((drop cols done ++ b ∷ []) ++ left)
    ∙ ap (λ (list : List ℕ). above ++ (take cols done ++ list)) (append_assoc (drop cols done) (b ∷ []) left)
    ∙ ap (λ (list : List ℕ). above ++ list) (sym (append_assoc (take cols done) (drop cols done) (b ∷ left)))
    ∙ ap (λ (list : List ℕ). above ++ (list ++ b ∷ left)) (take-append-drop cols done)

more_row : (n cols : ℕ) → (n + 1) * cols ≡ n * cols + cols
more_row n cols = omega arith

-- a text that has room loses nothing
nothing_lost : (rows cols : ℕ) (text : List ℕ) (s : Screen) → 1 ≤ rows → length text ≤ rows * cols
    → ShowsEnd rows cols text s → ShowsText rows cols text s
nothing_lost rows cols text s some room e = by e.lost e.above e.parts e.whole_rows e.few
  where
    by : (lost : ℕ) (above : List ℕ) → text ≡ above ++ e.left → length above ≡ lost * cols
        → (0 < lost → (rows - 1) * cols < length e.left) → ShowsText rows cols text s
    by zero [] parts whole few = subst (λ (t : List ℕ). ShowsText rows cols t s) (sym parts) e.shown
    by zero (b ∷ above) parts whole few = absurd (omega (arith, whole))
    by (suc lost) above parts whole few =
        let len : length text ≡ length above + length e.left =
        ap (λ (t : List ℕ). length t) parts ∙ length-append above e.left in
        let rows_are : rows * cols ≡ (rows - 1) * cols + cols =
        ap (λ (n : ℕ). n * cols) (let same : rows ≡ rows - 1 + 1 = omega (arith, some) in same) ∙ more_row (rows - 1) cols in
        let lost_rows : suc lost * cols ≡ lost * cols + cols = omega arith in
        let short : (rows - 1) * cols < length e.left = few (omega arith) in
        absurd (omega (arith, len, rows_are, lost_rows, short, room, whole))

module _ (none : RunOfNone) (more : RunOfMore) (low : LowTakeOne) where
  -- a character in the last row, where the first one is lost
  scrolled : (b : ℕ) (done : List ℕ) (g : GridView) (y : ℕ) → is_printable b ≡ true → Holds g done y g.cols → y + 1 ≡ g.rows
      → Holds (with_cell (turned g) y 0 (start_cell b)) (drop g.cols done ++ b ∷ []) y (0 + 1)
  scrolled b done g y is h last =
      let some_rows : 0 < g.rows = omega (arith, last) in
      let total : length done ≡ g.rows * g.cols =
      sym h.place ∙ sym (more_row y g.cols) ∙ ap (λ (n : ℕ). n * g.cols) last in
      let left : y * g.cols + 0 ≡ length (drop g.cols done) = omega (arith, h.place, length-drop g.cols done) in
      let cells : all_cells (turned g)
      ≡ map start_cell (drop g.cols done) ++ replicate (g.rows * g.cols - length (drop g.cols done)) start_blank =
      joined-turned g.cols g.cells (replicate g.cols start_blank) h.full.wide (omega (arith, some_rows, h.full.tall))
      ∙ cells_turned (g.rows * g.cols) g.cols done (all_cells g) total (omega (arith, h.place, total)) h.cells in
      grown none more (turned g) (drop g.cols done) y 0 b is (full_turned g h.full some_rows)
      (narrow_turned g h.full some_rows h.narrow) h.in_rows h.some_cols left cells

  ends : (text above done : List ℕ) (lost : ℕ) (g : GridView) (y count : ℕ) → Holds g done y count → AllPrintable text
      → length above ≡ lost * g.cols → (0 < lost → (g.rows - 1) * g.cols < length done)
      → ShowsEnd g.rows g.cols (above ++ (done ++ text)) (print_characters text (at g y count))
  ends [] above done lost g y count h all whole few = record {
    lost = lost;
    above = above;
    left = done;
    parts = ap (λ (list : List ℕ). above ++ list) (append-nil done);
    whole_rows = whole;
    few = few;
    shown = shown_all g done y count h;
  }
  ends (b ∷ text) above done lost g y count h all whole few =
      elim (cases_lt count g.cols) [
        | inl here ↦
            next above (done ++ b ∷ []) (at (with_cell g y count (start_cell b)) y (count + 1))
            (step_here none more low b g y count all.0 h.full h.narrow h.in_rows here) same
            (ends text above (done ++ b ∷ []) lost (with_cell g y count (start_cell b)) y (count + 1)
            (grown none more g done y count b all.0 h.full h.narrow h.in_rows here h.place h.cells) all.1 whole few_more)
        | inr end ↦
            let last : count ≡ g.cols = omega (arith, end, h.within) in
            let all_full : Holds g done y g.cols = subst (Holds g done y) last h in
            let same_screen = ap (λ (n : ℕ). print_character b (at g y n)) last in
            elim (cases_lt (y + 1) g.rows) [
              | inl below ↦
                  let rows_full : (y + 1) * g.cols + 0 ≡ length done = omega (arith, all_full.place) in
                  next above (done ++ b ∷ []) (at (with_cell g (y + 1) 0 (start_cell b)) (y + 1) (0 + 1))
                  (same_screen ∙ step_below none more low b g y all.0 h.full h.narrow below h.some_cols) same
                  (ends text above (done ++ b ∷ []) lost (with_cell g (y + 1) 0 (start_cell b)) (y + 1) (0 + 1)
                  (grown none more g done (y + 1) 0 b all.0 h.full h.narrow below h.some_cols rows_full h.cells) all.1 whole few_more)
              | inr bottom ↦
                  let rows_are : y + 1 ≡ g.rows = omega (arith, bottom, h.in_rows) in
                  let holds = scrolled b done g y all.0 all_full rows_are in
                  let others : (g.rows - 1) * g.cols ≡ y * g.cols =
                  ap (λ (n : ℕ). n * g.cols) (let e : g.rows - 1 ≡ y = omega (arith, rows_are) in e) in
                  let one_row : length (take g.cols done) ≡ g.cols =
                  length-take-le g.cols done (omega (arith, all_full.place)) in
                  next (above ++ take g.cols done) (drop g.cols done ++ b ∷ []) (at (with_cell (turned g) y 0 (start_cell b)) y (0 + 1))
                  (same_screen ∙ step_scroll none more low b g y all.0 h.full h.narrow rows_are h.some_cols)
                  (lost_more above done text b g.cols)
                  (ends text (above ++ take g.cols done) (drop g.cols done ++ b ∷ []) (lost + 1)
                  (with_cell (turned g) y 0 (start_cell b)) y (0 + 1) holds all.1
                  (omega (arith, whole, length-append above (take g.cols done), one_row)) (λ _. omega (arith, others, holds.place)))
            ]
      ]
    where
      same : above ++ ((done ++ b ∷ []) ++ text) ≡ above ++ (done ++ b ∷ text)
      same = ap (λ (list : List ℕ). above ++ list) (append_assoc done (b ∷ []) text)

      few_more : 0 < lost → (g.rows - 1) * g.cols < length (done ++ b ∷ [])
      few_more some = omega (arith, few some, length-append done (b ∷ []))

      next : (first then : List ℕ) (s : Screen) → print_character b (at g y count) ≡ s
          → first ++ (then ++ text) ≡ above ++ (done ++ b ∷ text)
          → ShowsEnd g.rows g.cols (first ++ (then ++ text)) (print_characters text s)
          → ShowsEnd g.rows g.cols (above ++ (done ++ b ∷ text)) (print_characters (b ∷ text) (at g y count))
      next first then s step lists shown =
          subst (λ (t : Screen). ShowsEnd g.rows g.cols (above ++ (done ++ b ∷ text)) (print_characters text t)) (sym step)
          (subst (λ (list : List ℕ). ShowsEnd g.rows g.cols list (print_characters text s)) lists shown)

  pub text_scrolls : PrintablesAreCharacters → TextScrolls
  text_scrolls law rows cols text some_rows some_cols printable =
      let all : AllPrintable text = printables text printable in
      let runs = printables_run law text (start_screen rows cols) (fresh start_mode) all refl refl in
      let shown : ShowsEnd rows cols text (print_characters text (at (filled_grid rows cols start_blank) 0 0)) =
      ends text [] [] 0 (filled_grid rows cols start_blank) 0 0 (holds_none rows cols some_rows some_cols) all (omega arith) (λ h. absurd (omega (arith, h))) in
      let from_start : ShowsEnd rows cols text (print_characters text (start_screen rows cols)) =
      subst (λ (s : Screen). ShowsEnd rows cols text (print_characters text s)) (at_start rows cols some_cols) shown in (
        subst (λ (r : Reached ScreenAndOuts). ShowsEnd rows cols text r.state.screen) (sym runs) from_start,
        ap (λ (r : Reached ScreenAndOuts). r.rest.text) runs ∙ ap (λ (r : Rest). r.text) (fresh_behind text start_mode),
        ap (λ (r : Reached ScreenAndOuts). r.state.outs) runs,
      )

  -- where all has room, nothing is lost
  pub text_fills_rows : PrintablesAreCharacters → TextFillsRows
  text_fills_rows law rows cols text some_rows some_cols printable room =
      let shown = text_scrolls law rows cols text some_rows some_cols printable in
      nothing_lost rows cols text _ some_rows room shown.0
