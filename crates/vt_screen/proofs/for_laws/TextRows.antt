-- The cells of a grid, row after row, as printable characters come in.
use Rattle.std.proofs.Common.{◌≡◌, ℕ, zero, suc, ◌+◌, ◌-◌, ◌*◌, ◌<◌, ◌≤◌, ◌==◌, min, true, false, List, [], ◌∷◌, ◌++◌, length, map, set, get_or, replicate, refl, sym, subst, ap, ◌∙◌, append_assoc, arith}
use Rattle.std.specs.List.{flat_map}
use Rattle.std.specs.Prelude.{All}
use Rattle.std.proofs.lemmas.Bool.{ne_eqb}
use Rattle.std.proofs.lemmas.Bool.Decides.{nat_tests}
use Rattle.std.proofs.lemmas.List.{length-append, length-map, length-replicate, length-set, replicate-append-replicate, set-append_left, set-append_right, map-append}
use Rattle.std.proofs.lemmas.List.Elements.{All-cons, All-head, All-nil, All-replicate, All-set, All-tail}
use Rattle.std.proofs.lemmas.Nat.{mul-add-lt}
use Rattle.vt_cells.specs.Width.{is_half}
use Rattle.vt_cells.specs.declared.cell.Cell.{Cell}
use Rattle.vt_grid.specs.Grid.{IsFull, GridView, filled_grid, row_at, with_cell, with_run}
use Rattle.vt_grid.specs.Laws.{RunOfMore, RunOfNone}
use Rattle.vt_grid.proofs.Narrow.{filled_narrow, run_narrow}
use Rattle.vt_screen.proofs.Printed.{AllPrintable}
use Rattle.vt_screen.proofs.TextSteps.{at}
use Rattle.vt_grid.specs.Halves.{IsNarrow}
use Rattle.vt_canvas.specs.Screen.{start_blank, start_screen, start_state}
use Rattle.vt_screen.specs.TextRows.{all_cells, start_cell}
use Rattle.vt_units.specs.Bytes.{is_printable}

-- the rows, one after another
abbrev pub joined : List (List Cell) → List Cell
joined rows = flat_map (λ row. row) rows

-- a cell of a row is a cell of all
set-joined : (cols : ℕ) (rows : List (List Cell)) (y x : ℕ) (c : Cell) → All (λ row. length row ≡ cols) rows
    → y < length rows → x < cols
    → joined (set rows y (set (get_or rows y []) x c)) ≡ set (joined rows) (y * cols + x) c
set-joined cols [] y x c wide in_rows in_row = absurd (omega (arith, in_rows))
set-joined cols (row ∷ rows) zero x c wide in_rows in_row =
    let long : length row ≡ cols = All-head (λ r. length r ≡ cols) row rows wide in
    let place : x ≡ 0 * cols + x = omega arith in
    sym (set-append_left row (joined rows) x c (omega (arith, in_row, long)))
    ∙ ap (λ (n : ℕ). set (row ++ joined rows) n c) place
set-joined cols (row ∷ rows) (suc y) x c wide in_rows in_row =
    let long : length row ≡ cols = All-head (λ r. length r ≡ cols) row rows wide in
    let place : suc y * cols + x ≡ cols + (y * cols + x) = omega arith in
    let left : suc y * cols + x - cols ≡ y * cols + x = omega arith in
    ap (λ (cells : List Cell). row ++ cells)
    (set-joined cols rows y x c (All-tail (λ r. length r ≡ cols) row rows wide) (omega (arith, in_rows)) in_row
    ∙ ap (λ (n : ℕ). set (joined rows) n c) (sym left))
    ∙ sym (set-append_right row (joined rows) cols (suc y * cols + x) c long (omega (arith, place)))

-- the first blank becomes the next character
set_first_blank : (n : ℕ) (done : List ℕ) (b : ℕ) → length done < n
    → set (map start_cell done ++ replicate (n - length done) start_blank) (length done) (start_cell b)
    ≡ map start_cell (done ++ b ∷ []) ++ replicate (n - length (done ++ b ∷ [])) start_blank
set_first_blank n done b room =
    let m : ℕ = n - length (done ++ b ∷ []) in
    let len : length (done ++ b ∷ []) ≡ length done + 1 = length-append done (b ∷ []) in
    let blanks : n - length done ≡ suc m = omega (arith, room, len) in
    let none : length done - length done ≡ zero = omega arith in
    ap (λ (k : ℕ). set (map start_cell done ++ replicate k start_blank) (length done) (start_cell b)) blanks
    ∙ set-append_right (map start_cell done) (replicate (suc m) start_blank) (length done) (length done) (start_cell b)
    (length-map done start_cell) (omega arith)
    ∙ ap (λ (k : ℕ). map start_cell done ++ set (replicate (suc m) start_blank) k (start_cell b)) none
    ∙ sym (append_assoc (map start_cell done) (start_cell b ∷ []) (replicate m start_blank))
    ∙ ap (λ (cells : List Cell). cells ++ replicate m start_blank) (sym (map-append start_cell done (b ∷ [])))

-- the grid after some characters, with the cursor after so many columns of row y
pub record Holds (g : GridView) (done : List ℕ) (y count : ℕ) : Type 0 where
  pub full : IsFull g
  pub narrow : IsNarrow g
  pub some_cols : 0 < g.cols
  pub in_rows : y < g.rows
  pub place : y * g.cols + count ≡ length done
  pub within : count ≤ g.cols
  pub some : 0 < length done → 0 < count
  pub cells : all_cells g ≡ map start_cell done ++ replicate (g.rows * g.cols - length done) start_blank

one_narrow : (b : ℕ) → is_printable b ≡ true → is_half (start_cell b) ≡ false
one_narrow b is = grind (arith, nat_tests, is)

module _ (none : RunOfNone) (more : RunOfMore) where
  -- one more character
  pub grown : (g : GridView) (done : List ℕ) (y x : ℕ) (b : ℕ) → is_printable b ≡ true → IsFull g → IsNarrow g
      → y < g.rows → x < g.cols → y * g.cols + x ≡ length done
      → all_cells g ≡ map start_cell done ++ replicate (g.rows * g.cols - length done) start_blank
      → Holds (with_cell g y x (start_cell b)) (done ++ b ∷ []) y (x + 1)
  grown g done y x b is full narrow in_rows in_row place cells =
      let c : Cell = start_cell b in
      let row : List Cell = row_at g y in
      let long : length row ≡ g.cols = full.wide y [] (omega (arith, in_rows, full.tall)) in
      let len : length (done ++ b ∷ []) ≡ length done + 1 = length-append done (b ∷ []) in
      let before : y * g.cols + x < g.cols * g.rows = mul-add-lt y g.cols x g.rows in_rows in_row in
      let room : length done < g.rows * g.cols = omega (arith, before, place) in
      let one : with_run g y x (c ∷ []) ≡ with_cell g y x c =
      more g y x c [] (omega (arith, in_row, long)) ∙ none (with_cell g y x c) y (x + 1) in
      record {
        full = record {
          tall = length-set g.cells y (set row x c) ∙ full.tall;
          wide = All-set (λ r. length r ≡ g.cols) g.cells y (set row x c) (length-set row x c ∙ long) full.wide;
        };
        narrow =
            subst IsNarrow one
            (run_narrow g y x (c ∷ []) narrow (All-cons (λ d. is_half d ≡ false) c [] (one_narrow b is) (All-nil (λ d. is_half d ≡ false))));
        some_cols = omega (arith, in_row);
        in_rows = in_rows;
        place = omega (arith, place, len);
        within = omega (arith, in_row);
        some = λ _. omega arith;
        cells =
            set-joined g.cols g.cells y x c full.wide (omega (arith, in_rows, full.tall)) in_row
            ∙ ap (λ (n : ℕ). set (joined g.cells) n c) place
            ∙ ap (λ (all : List Cell). set all (length done) c) cells
            ∙ set_first_blank (g.rows * g.cols) done b room;
      }

joined_blanks : (rows cols : ℕ) (c : Cell) → joined (replicate rows (replicate cols c)) ≡ replicate (rows * cols) c
joined_blanks zero cols c =
    ap (λ (n : ℕ). replicate n c) (let e : zero ≡ 0 * cols = omega arith in e)
joined_blanks (suc rows) cols c =
    ap (λ (cells : List Cell). replicate cols c ++ cells) (joined_blanks rows cols c)
    ∙ replicate-append-replicate cols (rows * cols) c
    ∙ ap (λ (n : ℕ). replicate n c) (let e : cols + rows * cols ≡ suc rows * cols = omega arith in e)

pub holds_none : (rows cols : ℕ) → 1 ≤ rows → 1 ≤ cols → Holds (filled_grid rows cols start_blank) [] 0 0
holds_none rows cols some_rows some_cols = record {
  full = record {
    tall = length-replicate rows (replicate cols start_blank);
    wide = All-replicate (λ row. length row ≡ cols) rows (replicate cols start_blank) (length-replicate cols start_blank);
  };
  narrow = filled_narrow rows cols start_blank refl;
  some_cols = some_cols;
  in_rows = some_rows;
  place = omega arith;
  within = omega arith;
  some = λ h. h;
  cells =
      joined_blanks rows cols start_blank
      ∙ ap (λ (n : ℕ). replicate n start_blank) (let e : rows * cols ≡ rows * cols - 0 = omega arith in e);
}

pub at_start : (rows cols : ℕ) → 1 ≤ cols → at (filled_grid rows cols start_blank) 0 0 ≡ start_screen rows cols
at_start rows cols some =
    let column : min 0 (cols - 1) ≡ 0 = omega arith in
    let wrap : (0 == cols) ≡ false = ne_eqb 0 cols (λ same. let e : ⊥ = omega (arith, some, same) in e) in
    λ i. record {
      grid = filled_grid rows cols start_blank;
      state = record (start_state rows) { x = column i; y = 0; wrap = wrap i };
    }

pub printables : (text : List ℕ) → All (λ b. is_printable b ≡ true) text → AllPrintable text
printables [] h = tt
printables (b ∷ text) h =
    (All-head (λ x. is_printable x ≡ true) b text h, printables text (All-tail (λ x. is_printable x ≡ true) b text h))
