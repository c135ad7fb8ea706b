-- Where a text stands in a row, cell by cell.
use Rattle.std.proofs.Common.{◌≡◌, ℕ, ◌+◌, ◌<◌, ◌≤◌, zero, suc, true, false, arith, List, [], ◌∷◌, length, get_or, drop, Some, refl, sym, ap, ◌∙◌, add-one, drop-cons}
use Rattle.std.proofs.lemmas.Bool.{eq-eqb, ne_eqb}
use Rattle.std.proofs.lemmas.List.{drop_all}
use Rattle.std.proofs.lemmas.Option.{none-some, same_Some}
use Rattle.std.specs.Prelude.{◌&&◌, ◌||◌, slice_get}
use Rattle.vt_cells.specs.declared.cell.Cell.{Cell}
use Rattle.vt_explore.specs.Shows.{begins, stands_in}

-- the rest of a list from an element on
drop_from : {A : Type 0} (xs : List A) (k : ℕ) (x : A) → slice_get xs k ≡ Some x → drop k xs ≡ x ∷ drop (suc k) xs
drop_from [] k x is = absurd (none-some x is)
drop_from (y ∷ xs) zero x is = ap (λ z. z ∷ xs) (same_Some y x is)
drop_from (y ∷ xs) (suc k) x is = drop_from xs k x is

drop_get : {A : Type 0} (xs : List A) (k : ℕ) (x : A) → slice_get xs k ≡ Some x → drop k xs ≡ x ∷ drop (k + 1) xs
drop_get xs k x is = drop_from xs k x is ∙ ap (λ j. x ∷ drop j xs) (sym (add-one k))

drop_char : (text : List ℕ) (i : ℕ) → i < length text → drop i text ≡ get_or text i 0 ∷ drop (i + 1) text
drop_char text i low = drop-cons text i 0 low ∙ ap (λ j. get_or text i 0 ∷ drop j text) (sym (add-one i))

-- the next character is that of the next cell
pub begins_more : (text : List ℕ) (row : List Cell) (i at : ℕ) (cell : Cell) → i < length text
    → slice_get row at ≡ Some cell → cell.code ≡ get_or text i 0
    → begins (drop i text) (drop at row) ≡ begins (drop (i + 1) text) (drop (at + 1) row)
begins_more text row i at cell low here same =
    (λ j. begins (drop_char text i low j) (drop_get row at cell here j))
    ∙ ap (λ is. is && begins (drop (i + 1) text) (drop (at + 1) row)) (eq-eqb cell.code (get_or text i 0) same)

-- it isn't
pub begins_other : (text : List ℕ) (row : List Cell) (i at : ℕ) (cell : Cell) → i < length text
    → slice_get row at ≡ Some cell → (cell.code ≡ get_or text i 0 → ⊥)
    → begins (drop i text) (drop at row) ≡ false
begins_other text row i at cell low here apart =
    (λ j. begins (drop_char text i low j) (drop_get row at cell here j))
    ∙ ap (λ is. is && begins (drop (i + 1) text) (drop (at + 1) row)) (ne_eqb cell.code (get_or text i 0) apart)

-- there is no cell
pub begins_past : (text : List ℕ) (row : List Cell) (i at : ℕ) → i < length text → length row ≤ at
    → begins (drop i text) (drop at row) ≡ false
begins_past text row i at low past = λ j. begins (drop_char text i low j) (drop_all at row past j)

-- the text doesn't begin in this column
stands_next : (text : List ℕ) (row : List Cell) (x : ℕ) → begins text (drop x row) ≡ false
    → stands_in text (drop x row) ≡ stands_in text (drop (suc x) row)
stands_next text [] zero isnt = refl
stands_next text [] (suc x) isnt = refl
stands_next text (cell ∷ row) zero isnt = ap (λ is. is || stands_in text row) isnt
stands_next text (cell ∷ row) (suc x) isnt = stands_next text row x isnt

pub stands_more : (text : List ℕ) (row : List Cell) (x : ℕ) → begins text (drop x row) ≡ false
    → stands_in text (drop x row) ≡ stands_in text (drop (x + 1) row)
stands_more text row x isnt =
    stands_next text row x isnt ∙ ap (λ j. stands_in text (drop j row)) (sym (add-one x))

-- it does
pub stands_here : (text : List ℕ) (row : List Cell) (x : ℕ) → x < length row → begins text (drop x row) ≡ true
    → stands_in text (drop x row) ≡ true
stands_here text [] x low is = absurd (let no : ⊥ = omega (arith, low) in no)
stands_here text (cell ∷ row) zero low is = ap (λ begins_here. begins_here || stands_in text row) is
stands_here text (cell ∷ row) (suc x) low is = stands_here text row x (omega (arith, low)) is
