-- The cells of the nearest screen, one after another.
use Rattle.std.proofs.Common.{◌≡◌, ℕ, zero, suc, ◌+◌, ◌<◌, Bool, true, false, ◌&&◌, ◌||◌, List, [], ◌∷◌, ◌++◌, length, take, drop, set, get_or, refl, sym, subst, ap, ◌∙◌, add-one, arith}
use Rattle.std.specs.Prelude.{Some, if◌then◌else◌, not, slice_get, slice_index_or}
use Rattle.std.proofs.lemmas.List.{drop_all, drop_more, get_or-set_same, set-set}
use Rattle.std.proofs.lemmas.Option.{get_or_from_slice_get, slice_get_within}
use Rattle.vt_cells.specs.declared.cell.Cell.{Cell}
use Rattle.vt_grid.specs.Grid.{GridView, with_cell, with_row}
use Rattle.vt_redraw.specs.Near.{is_half_of, is_wide, near_cell, near_row}
use Rattle.vt_redraw.specs.Nearing.{begins_pair, near_from}

step_by : (t : Bool) (c next : Cell) (cells : List Cell)
    → (if t then c ∷ next ∷ near_row cells else near_cell c ∷ near_row (next ∷ cells))
    ≡ (if t then c else near_cell c) ∷ near_from t (next ∷ cells)
step_by true c next cells = refl
step_by false c next cells = refl

-- a cell, and the cells after it
pub near_step : (half : Bool) (c : Cell) (rest : List Cell)
    → near_from half (c ∷ rest)
    ≡ (if half || (not half && begins_pair (c ∷ rest)) then c else near_cell c)
    ∷ near_from (not half && begins_pair (c ∷ rest)) rest
near_step true c rest = refl
near_step false c [] = refl
near_step false c (next ∷ cells) = step_by (is_wide c && is_half_of c next) c next cells

-- the cell at a place, and the cells after it
cell_here : (row : List Cell) (x : ℕ) (c : Cell) → slice_get row x ≡ Some c → drop x row ≡ c ∷ drop (x + 1) row
cell_here row x c here =
    drop_more row x c (slice_get_within row x c here)
    ∙ ap (λ (d : Cell). d ∷ drop (x + 1) row) (get_or_from_slice_get row x c c here)

pub cell_step : (half pair : Bool) (row : List Cell) (x : ℕ) (c : Cell) → slice_get row x ≡ Some c
    → pair ≡ (not half && begins_pair (drop x row))
    → near_from half (drop x row)
    ≡ (if half || pair then c else near_cell c) ∷ near_from pair (drop (x + 1) row)
cell_step half pair row x c here is =
    let rest = drop (x + 1) row in
    let first = cell_here row x c here in
    ap (near_from half) first
    ∙ near_step half c rest
    ∙ ap (λ (t : Bool). (if half || t then c else near_cell c) ∷ near_from t rest)
    (sym (is ∙ ap (λ (cells : List Cell). not half && begins_pair cells) first))

-- the first two cells, and a last one
pub pair_here : (row : List Cell) (x : ℕ) (c next : Cell) → slice_get row x ≡ Some c → slice_get row (x + 1) ≡ Some next
    → begins_pair (drop x row) ≡ (is_wide c && is_half_of c next)
pair_here row x c next here there =
    ap begins_pair (cell_here row x c here ∙ ap (λ (cells : List Cell). c ∷ cells) (cell_here row (x + 1) next there))

pub no_pair : (row : List Cell) (x : ℕ) → length row ≡ x + 1 → begins_pair (drop x row) ≡ false
no_pair row x last =
    let none : Cell = record { code = 0; attr = 0 } in
    ap begins_pair
    (drop_more row x none (omega (arith, last))
    ∙ ap (λ (cells : List Cell). get_or row x none ∷ cells) (drop_all (x + 1) row (omega (arith, last))))

-- a byte at a place
pub byte_here : (row : List Cell) (x : ℕ) (c : Cell) → slice_get row x ≡ Some c → c.attr < 256
    → (d : Cell) → (slice_index_or row x d).attr < 256
byte_here row x c here small d =
    subst (λ (e : Cell). e.attr < 256) (sym (get_or_from_slice_get row x c d here)) small

-- the first so many elements of one list, and the others of another one
abbrev pub mixed : {X : Type 0} → ℕ → List X → List X → List X
mixed n news olds = take n news ++ drop n olds

first_is : {X : Type 0} (xs rest : List X) (x d : X) → x ∷ xs ≡ d ∷ rest → x ≡ d
first_is xs rest x d is = ap (λ l. get_or l 0 x) is

-- one more of the first
pub mixed_more : {X : Type 0} (n : ℕ) (news olds : List X) (d : X) (rest : List X) → drop n news ≡ d ∷ rest
    → n < length olds → mixed (n + 1) news olds ≡ set (mixed n news olds) n d
mixed_more n news olds d rest is within = ap (λ k. mixed k news olds) (add-one n) ∙ by n news olds d rest is within
  where
    by : {X : Type 0} (n : ℕ) (news olds : List X) (d : X) (rest : List X) → drop n news ≡ d ∷ rest
        → n < length olds → mixed (suc n) news olds ≡ set (mixed n news olds) n d
    by zero [] olds d rest is within = absurd (let no : ⊥ = cc in no)
    by zero (x ∷ news) [] d rest is within = absurd (omega (arith, within))
    by zero (x ∷ news) (o ∷ olds) d rest is within = ap (λ y. y ∷ olds) (first_is news rest x d is)
    by (suc n) [] olds d rest is within = absurd (let no : ⊥ = cc in no)
    by (suc n) (x ∷ news) [] d rest is within = absurd (omega (arith, within))
    by (suc n) (x ∷ news) (o ∷ olds) d rest is within = ap (λ xs. x ∷ xs) (by n news olds d rest is (omega (arith, within)))

pub rest_is : {X : Type 0} (n : ℕ) (xs : List X) (d : X) (rest : List X) → drop n xs ≡ d ∷ rest → drop (n + 1) xs ≡ rest
rest_is n xs d rest is = ap (λ k. drop k xs) (add-one n) ∙ by n xs d rest is
  where
    by : {X : Type 0} (n : ℕ) (xs : List X) (d : X) (rest : List X) → drop n xs ≡ d ∷ rest → drop (suc n) xs ≡ rest
    by zero [] d rest is = absurd (let no : ⊥ = cc in no)
    by zero (x ∷ xs) d rest is = ap (drop 1) is
    by (suc n) [] d rest is = absurd (let no : ⊥ = cc in no)
    by (suc n) (x ∷ xs) d rest is = by n xs d rest is

-- a cell of a row that was set
pub cell_in_row : (s : GridView) (y x : ℕ) (row : List Cell) (c : Cell) → y < length s.cells
    → with_cell (with_row s y row) y x c ≡ with_row s y (set row x c)
cell_in_row s y x row c within =
    let cells : set (set s.cells y row) y (set (get_or (set s.cells y row) y []) x c) ≡ set s.cells y (set row x c) =
    ap (λ r. set (set s.cells y row) y (set r x c)) (get_or-set_same s.cells y row [] within)
    ∙ set-set s.cells y row (set row x c) in
    λ i. record s { cells = cells i }
