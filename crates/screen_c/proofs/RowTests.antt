-- The test of two rows, cell by cell.
use Rattle.std.proofs.Common.{◌≡◌, ◌↔◌, ◌==◌, ◌&&◌, Bool, true, false, List, [], ◌∷◌, refl, sym, ap, ◌∙◌}
use Rattle.std.proofs.lemmas.Bool.{and_from, and_parts, eq-eqb, eqb-true, false≢true}
use Rattle.std.specs.Prelude.{IsTrue}
use Rattle.vt_cells.specs.declared.cell.Cell.{Cell}
use Rattle.vt_redraw.specs.Cells.{are_same}

equal_rows : (old row : List Cell) → are_same old row ≡ true → old ≡ row
equal_rows [] [] same = refl
equal_rows [] (c ∷ row) same = absurd (false≢true same)
equal_rows (o ∷ old) [] same = absurd (false≢true same)
equal_rows (o ∷ old) (c ∷ row) same =
    let parts = and_parts (o.code == c.code && o.attr == c.attr) (are_same old row) same in
    let fields = and_parts (o.code == c.code) (o.attr == c.attr) parts.0 in
    λ i.
    record { code = eqb-true o.code c.code fields.0 i; attr = eqb-true o.attr c.attr fields.1 i }
    ∷ equal_rows old row parts.1 i

same_as_itself : (row : List Cell) → are_same row row ≡ true
same_as_itself [] = refl
same_as_itself (c ∷ row) =
    and_from (c.code == c.code && c.attr == c.attr) (are_same row row)
    (and_from (c.code == c.code) (c.attr == c.attr) (eq-eqb c.code c.code refl) (eq-eqb c.attr c.attr refl))
    (same_as_itself row)

unequal : (old row : List Cell) (t : Bool) → are_same old row ≡ t → (old ≡ row → IsTrue false) → false ≡ t
unequal old row false is apart = refl
unequal old row true is apart = absurd (false≢true (apart (equal_rows old row is)))

pub test_of_rows : (test : Bool) (old row : List Cell) → IsTrue test ↔ (old ≡ row) → test ≡ are_same old row
test_of_rows true old row (there, back) =
    sym (ap (λ (r : List Cell). are_same r row) (there refl) ∙ same_as_itself row)
test_of_rows false old row (there, back) = unequal old row (are_same old row) refl back
