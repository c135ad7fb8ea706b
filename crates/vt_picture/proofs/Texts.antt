-- A text made of a row or of rows piece by piece.
use Rattle.std.proofs.Common.{◌≡◌, ℕ, zero, suc, ◌+◌, ◌-◌, ◌*◌, ◌<◌, ◌≤◌, List, [], ◌∷◌, ◌++◌, drop, take, length, Some, sym, ap, ◌∙◌, append_assoc, add-one, refl, subst, arith, drop-cons}
use Rattle.std.proofs.lemmas.List.{length-drop, length-take-le}
use Rattle.std.proofs.lemmas.Option.{slice_get_within, get_or_from_slice_get}
use Rattle.std.specs.List.{flat_map, slice_get}
use Rattle.std.specs.Prelude.{codes, decimal, slice_index_or}
use Rattle.vt_cells.specs.declared.cell.Cell.{Cell}
use Rattle.vt_grid.specs.Grid.{IsFull, GridView, row_at}
use Rattle.vt_picture.specs.Picture.{edges, first_cell, rows_text, run_text, runs_text, word_text, words_text}
use Rattle.vt_picture.specs.Runs.{runs, words}
use Rattle.vt_canvas.specs.declared.screen_state.ScreenState.{ScreenState}

-- the text so far and what is left stay the whole when a piece is added
piece_more : (old piece rest all new whole : List ℕ) → new ≡ old ++ piece → all ≡ piece ++ rest
    → old ++ all ≡ whole → new ++ rest ≡ whole
piece_more old piece rest all new whole added parts so_far =
    ap (λ (text : List ℕ). text ++ rest) added
    ∙ append_assoc old piece rest
    ∙ ap (λ (text : List ℕ). old ++ text) (sym parts)
    ∙ so_far

-- a text that is added in three pieces
pub in_three : (old a b c t1 t2 t3 : List ℕ) → t1 ≡ old ++ a → t2 ≡ t1 ++ b → t3 ≡ t2 ++ c
    → t3 ≡ old ++ (a ++ (b ++ c))
in_three old a b c t1 t2 t3 e1 e2 e3 =
    let regroup : ((old ++ a) ++ b) ++ c ≡ old ++ (a ++ (b ++ c)) = simp append_assoc in
    e3 ∙ ap (λ (t : List ℕ). t ++ c) (e2 ∙ ap (λ (t : List ℕ). t ++ b) e1) ∙ regroup

-- a text that is added in five pieces
pub in_five : (old a b c d e t1 t2 t3 t4 t5 : List ℕ) → t1 ≡ old ++ a → t2 ≡ t1 ++ b → t3 ≡ t2 ++ c → t4 ≡ t3 ++ d
    → t5 ≡ t4 ++ e → t5 ≡ old ++ (a ++ (b ++ (c ++ (d ++ e))))
in_five old a b c d e t1 t2 t3 t4 t5 e1 e2 e3 e4 e5 =
    let regroup : ((old ++ (a ++ (b ++ c))) ++ d) ++ e ≡ old ++ (a ++ (b ++ (c ++ (d ++ e)))) = simp append_assoc in
    e5 ∙ ap (λ (t : List ℕ). t ++ e) (e4 ∙ ap (λ (t : List ℕ). t ++ d) (in_three old a b c t1 t2 t3 e1 e2 e3)) ∙ regroup

-- a row is as long as the grid is wide
pub row_long : (g : GridView) (y : ℕ) → IsFull g → y < g.rows → length (row_at g y) ≡ g.cols
row_long g y full in_rows = full.wide y [] (omega (arith, in_rows, full.tall))

-- a run within a row has all its cells
pub run_long : (row : List Cell) (x count : ℕ) → x + count ≤ length row → length (take count (drop x row)) ≡ count
run_long row x count within = length-take-le count (drop x row) (omega (arith, within, length-drop x row))

pub slice_take : (row : List Cell) (count i : ℕ) (c : Cell) → i < count → slice_get row i ≡ Some c
    → slice_get (take count row) i ≡ Some c
slice_take row zero i c before is = absurd (omega (arith, before))
slice_take [] (suc count) i c before is = is
slice_take (d ∷ row) (suc count) zero c before is = is
slice_take (d ∷ row) (suc count) (suc i) c before is = slice_take row count i c (omega (arith, before)) is

-- a cell of the first cells is the row's
pub slice_untake : (row : List Cell) (count i : ℕ) (c : Cell) → slice_get (take count row) i ≡ Some c
    → slice_get row i ≡ Some c
slice_untake row zero i c is = absurd (no_cell i c is)
  where
    no_cell : (i : ℕ) (c : Cell) → slice_get [] i ≡ Some c → ⊥
    no_cell i c is = omega (arith, slice_get_within [] i c is)
slice_untake [] (suc count) i c is = is
slice_untake (d ∷ row) (suc count) zero c is = is
slice_untake (d ∷ row) (suc count) (suc i) c is = slice_untake row count i c is

-- the cells of a run are those from its column on, of the cells up to its end
pub run_of_first : (row : List Cell) (x count end : ℕ) → x + count ≡ end
    → drop x (take end row) ≡ take count (drop x row)
run_of_first row zero count end sum =
    let same : end ≡ count = omega (arith, sum) in
    ap (λ (n : ℕ). take n row) same
run_of_first [] (suc x) count zero sum = absurd (omega (arith, sum))
run_of_first [] (suc x) count (suc end) sum = sym (none count [] refl)
  where
    none : (count : ℕ) (cells : List Cell) → cells ≡ [] → take count cells ≡ []
    none zero cells is = refl
    none (suc count) cells is = ap (take (suc count)) is
run_of_first (d ∷ row) (suc x) count zero sum = absurd (omega (arith, sum))
run_of_first (d ∷ row) (suc x) count (suc end) sum = run_of_first row x count end (omega (arith, sum))

slice_drop : (row : List Cell) (x i at : ℕ) (c : Cell) → x + i ≡ at → slice_get row at ≡ Some c
    → slice_get (drop x row) i ≡ Some c
slice_drop row zero i at c sum is =
    let same : at ≡ i = omega (arith, sum) in
    subst (λ (k : ℕ). slice_get row k ≡ Some c) same is
slice_drop [] (suc x) i at c sum is = is
slice_drop (d ∷ row) (suc x) i zero c sum is = absurd (omega (arith, sum))
slice_drop (d ∷ row) (suc x) i (suc at) c sum is = slice_drop row x i at c (omega (arith, sum)) is

-- a cell of a run is the row's
pub run_cell : (row : List Cell) (x count i : ℕ) (c : Cell) → i < count → slice_get row (x + i) ≡ Some c
    → slice_get (take count (drop x row)) i ≡ Some c
run_cell row x count i c before is = slice_take (drop x row) count i c before (slice_drop row x i (x + i) c refl is)

-- the first cell of a run is that of its place in the row
pub run_first : (row : List Cell) (x count : ℕ) (c : Cell) → 0 < count → slice_get row x ≡ Some c
    → first_cell (take count (drop x row)) ≡ c
run_first row x count c some is =
    get_or_from_slice_get (take count (drop x row)) 0 c _ (slice_take (drop x row) count 0 c some (first_of row x c is))
  where
    first_of : (row : List Cell) (x : ℕ) (c : Cell) → slice_get row x ≡ Some c → slice_get (drop x row) 0 ≡ Some c
    first_of row zero c is = is
    first_of [] (suc x) c is = is
    first_of (d ∷ row) (suc x) c is = first_of row x c is

flat_map-drop : (f : Cell → List ℕ) (xs : List Cell) (i : ℕ) (x : Cell) → slice_get xs i ≡ Some x
    → flat_map f (drop i xs) ≡ f x ++ flat_map f (drop (i + 1) xs)
flat_map-drop f xs i x is =
    let within : i < length xs = slice_get_within xs i x is in
    ap (flat_map f) (drop-cons xs i x within)
    ∙ (λ j. f (get_or_from_slice_get xs i x x is j) ++ flat_map f (drop (sym (add-one i) j) xs))

-- one more cell of a run
pub cells_more : (f : Cell → List ℕ) (xs : List Cell) (i : ℕ) (x : Cell) (old new whole : List ℕ)
    → slice_get xs i ≡ Some x → new ≡ old ++ f x → old ++ flat_map f (drop i xs) ≡ whole
    → new ++ flat_map f (drop (i + 1) xs) ≡ whole
cells_more f xs i x old new whole is added so_far =
    piece_more old (f x) (flat_map f (drop (i + 1) xs)) (flat_map f (drop i xs)) new whole added
    (flat_map-drop f xs i x is) so_far

-- one more run of a row
pub runs_more : (state : ScreenState) (y x count : ℕ) (row : List Cell) (old new whole : List ℕ)
    → runs (drop x row) ≡ take count (drop x row) ∷ runs (drop (x + count) row)
    → length (take count (drop x row)) ≡ count
    → new ≡ old ++ run_text state y x (take count (drop x row))
    → old ++ runs_text state y x (runs (drop x row)) ≡ whole
    → new ++ runs_text state y (x + count) (runs (drop (x + count) row)) ≡ whole
runs_more state y x count row old new whole cut long added so_far =
    let run : List Cell = take count (drop x row) in
    let rest : List (List Cell) = runs (drop (x + count) row) in
    piece_more old (run_text state y x run) (runs_text state y (x + count) rest)
    (runs_text state y x (runs (drop x row))) new whole added
    (ap (runs_text state y x) cut ∙ ap (λ (n : ℕ). run_text state y x run ++ runs_text state y (x + n) rest) long)
    so_far

-- one more word of a run
pub words_more : (x count : ℕ) (cells : List Cell) (old new whole : List ℕ)
    → words (drop x cells) ≡ take count (drop x cells) ∷ words (drop (x + count) cells)
    → length (take count (drop x cells)) ≡ count
    → new ≡ old ++ word_text x (take count (drop x cells))
    → old ++ words_text x (words (drop x cells)) ≡ whole
    → new ++ words_text (x + count) (words (drop (x + count) cells)) ≡ whole
words_more x count cells old new whole cut long added so_far =
    let word : List Cell = take count (drop x cells) in
    let rest : List (List Cell) = words (drop (x + count) cells) in
    piece_more old (word_text x word) (words_text (x + count) rest) (words_text x (words (drop x cells))) new whole added
    (ap (words_text x) cut ∙ ap (λ (n : ℕ). word_text x word ++ words_text (x + n) rest) long)
    so_far

-- a word of the first cells is the row's
pub word_of_row : (row : List Cell) (x count end : ℕ) → x + count ≤ end
    → take count (drop x (take end row)) ≡ take count (drop x row)
word_of_row row x count end within =
    let parts : x + (end - x) ≡ end = omega (arith, within) in
    ap (take count) (run_of_first row x (end - x) end parts) ∙ take_twice (drop x row) count (end - x) (omega (arith, within))
  where
    take_twice : (cells : List Cell) (few many : ℕ) → few ≤ many → take few (take many cells) ≡ take few cells
    take_twice cells zero many less = refl
    take_twice cells (suc few) zero less = absurd (omega (arith, less))
    take_twice [] (suc few) (suc many) less = refl
    take_twice (c ∷ cells) (suc few) (suc many) less = ap (λ rest. c ∷ rest) (take_twice cells few many (omega (arith, less)))

-- one more left edge
pub edges_more : (x end : ℕ) (old middle new whole : List ℕ) → x < end → middle ≡ old ++ codes " "
    → new ≡ middle ++ decimal (8 * x) → old ++ edges x (end - x) ≡ whole
    → new ++ edges (x + 1) (end - (x + 1)) ≡ whole
edges_more x end old middle new whole before first second so_far =
    let left : end - x ≡ suc (end - (x + 1)) = omega (arith, before) in
    let regroup : (old ++ codes " ") ++ decimal (8 * x) ≡ old ++ (codes " " ++ decimal (8 * x)) =
    append_assoc old (codes " ") (decimal (8 * x)) in
    piece_more old (codes " " ++ decimal (8 * x)) (edges (x + 1) (end - (x + 1))) (edges x (end - x)) new whole
    (second ∙ ap (λ (t : List ℕ). t ++ decimal (8 * x)) first ∙ regroup)
    (ap (edges x) left ∙ ap (λ (n : ℕ). codes " " ++ (decimal (8 * x) ++ edges n (end - (x + 1)))) (sym (add-one x))
    ∙ sym (append_assoc (codes " ") (decimal (8 * x)) (edges (x + 1) (end - (x + 1)))))
    so_far

-- one more row of a grid
pub rows_more : (state : ScreenState) (cells : List (List Cell)) (y : ℕ) (old new whole : List ℕ)
    → y < length cells
    → new ≡ old ++ runs_text state y 0 (runs (slice_index_or cells y []))
    → old ++ rows_text state y (drop y cells) ≡ whole
    → new ++ rows_text state (y + 1) (drop (y + 1) cells) ≡ whole
rows_more state cells y old new whole within added so_far =
    piece_more old (runs_text state y 0 (runs (slice_index_or cells y []))) (rows_text state (y + 1) (drop (y + 1) cells))
    (rows_text state y (drop y cells)) new whole added
    (ap (rows_text state y) (drop-cons cells y [] within)
    ∙ ap (λ (n : ℕ). runs_text state y 0 (runs (slice_index_or cells y [])) ++ rows_text state n (drop n cells)) (sym (add-one y)))
    so_far

pub ruleset within_rows = (row_long, run_long, run_first)

pub ruleset run_by_run = (row_long, run_long, runs_more)
