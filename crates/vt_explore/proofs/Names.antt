-- Names that have the same bytes are the same.
use Rattle.std.proofs.Common.{◌≡◌, ℕ, Bool, true, false, List, [], ◌∷◌, ⊎_elim, refl, sym, ◌∙◌, subst}
use Rattle.std.proofs.lemmas.Bool.{and_parts, eq-eqb, false_from_ne_true, false≢true}
use Rattle.std.proofs.lemmas.Bool.Decides.{eqb_tells}
use Rattle.std.specs.Prelude.{◌==◌, ◌&&◌, ◌↔◌, IsTrue}
use Rattle.vt_explore.specs.Facts.{are_equal}

same : (x y : ℕ) → (x == y) ≡ true → x ≡ y
same x y is = ⊎_elim (λ equal. equal.1) (λ other. absurd (false≢true (sym other.0 ∙ is))) (eqb_tells x y)

equal_self : (xs : List ℕ) → are_equal xs xs ≡ true
equal_self [] = refl
equal_self (x ∷ xs) = λ i. eq-eqb x x refl i && equal_self xs i

equal_of : (xs ys : List ℕ) → are_equal xs ys ≡ true → xs ≡ ys
equal_of [] [] is = refl
equal_of [] (y ∷ ys) is = absurd (false≢true is)
equal_of (x ∷ xs) [] is = absurd (false≢true is)
equal_of (x ∷ xs) (y ∷ ys) is =
    let parts : ((x == y) ≡ true) × (are_equal xs ys ≡ true) = and_parts (x == y) (are_equal xs ys) is in
    λ i. same x y parts.0 i ∷ equal_of xs ys parts.1 i

-- a test of names
pub tells : (b : Bool) (xs ys : List ℕ) → (IsTrue b ↔ (xs ≡ ys)) → b ≡ are_equal xs ys
tells true xs ys both = sym (subst (λ zs. are_equal xs zs ≡ true) (both.0 refl) (equal_self xs))
tells false xs ys both =
    sym (false_from_ne_true (are_equal xs ys) (λ is. false≢true (both.1 (equal_of xs ys is))))
