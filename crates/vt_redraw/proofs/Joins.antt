-- Texts that are added one after another, and rows that differ.
use Rattle.std.proofs.Common.{◌≡◌, ◌↔◌, ℕ, ◌+◌, ◌<◌, ◌==◌, ◌&&◌, Bool, true, false, List, [], ◌∷◌, ◌++◌, length, drop, get_or, refl, ap, ◌∙◌, append_assoc}
use Rattle.std.specs.Prelude.{IsTrue, if◌then◌else◌}
use Rattle.std.proofs.lemmas.Bool.{and_from, eq-eqb, false≢true}
use Rattle.std.proofs.lemmas.List.{drop_more}
use Rattle.vt_cells.specs.declared.cell.Cell.{Cell}
use Rattle.vt_redraw.proofs.Sheets.{same_rows}
use Rattle.vt_redraw.specs.Cells.{are_same, changed_rows, row_text}

-- what is added to a text with an addition
pub joined : (x a t b c : List ℕ) → b ≡ x ++ a → c ≡ b ++ t → c ≡ x ++ (a ++ t)
joined x a t b c one two = two ∙ ap (λ (text : List ℕ). text ++ t) one ∙ append_assoc x a t

-- a row is as itself
same_self : (row : List Cell) → are_same row row ≡ true
same_self [] = refl
same_self (c ∷ row) =
    and_from (c.code == c.code && c.attr == c.attr) (are_same row row)
    (and_from (c.code == c.code) (c.attr == c.attr) (eq-eqb c.code c.code refl) (eq-eqb c.attr c.attr refl)) (same_self row)

-- the test of rows, as the code makes it
pub test_is : (test : Bool) (old row : List Cell) → IsTrue test ↔ (old ≡ row) → are_same old row ≡ test
test_is true old row (there, back) = ap (λ (r : List Cell). are_same r row) (there refl) ∙ same_self row
test_is false old row (there, back) = by (are_same old row) refl
  where
    by : (t : Bool) → are_same old row ≡ t → t ≡ false
    by false is = refl
    by true is = absurd (false≢true (back (same_rows old row is)))

-- the rows from one on
pub rows_more : (y : ℕ) (olds news : List (List Cell)) → y < length olds → y < length news
    → changed_rows y (drop y olds) (drop y news)
    ≡ (if are_same (get_or olds y []) (get_or news y []) then [] else row_text y (get_or news y []))
    ++ changed_rows (y + 1) (drop (y + 1) olds) (drop (y + 1) news)
rows_more y olds news h k = λ i. changed_rows y (drop_more olds y [] h i) (drop_more news y [] k i)

-- a row that is added, and one that isn't
pub row_differs : (t : Bool) (y : ℕ) (old row : List Cell) (more : List ℕ) → are_same old row ≡ t → t ≡ false
    → (if are_same old row then [] else row_text y row) ++ more ≡ row_text y row ++ more
row_differs t y old row more is no_same =
    ap (λ (b : Bool). (if b then [] else row_text y row) ++ more) (is ∙ no_same)

pub row_stays : (t : Bool) (y : ℕ) (old row : List Cell) (more : List ℕ) → are_same old row ≡ t → t ≡ true
    → (if are_same old row then [] else row_text y row) ++ more ≡ more
row_stays t y old row more is same = ap (λ (b : Bool). (if b then [] else row_text y row) ++ more) (is ∙ same)
