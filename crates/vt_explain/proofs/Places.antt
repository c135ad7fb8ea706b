-- Places of lists.
use Rattle.std.proofs.Common.{◌≡◌, ◌<◌, ℕ, zero, suc, List, [], ◌∷◌, ◌++◌, length, Some, refl, sym, arith}
use Rattle.std.specs.Prelude.{slice_get}
use Rattle.std.proofs.lemmas.Option.{none-some, same_Some}

pub get_left : {A : Type 0} (xs ys : List A) (k : ℕ) (x : A) → slice_get xs k ≡ Some x
    → slice_get (xs ++ ys) k ≡ Some x
get_left [] ys k x is = absurd (none-some x is)
get_left (y ∷ xs) ys zero x is = is
get_left (y ∷ xs) ys (suc k) x is = get_left xs ys k x is

pub get_last : {A : Type 0} (xs : List A) (x : A) → slice_get (xs ++ x ∷ []) (length xs) ≡ Some x
get_last [] x = refl
get_last (y ∷ xs) x = get_last xs x

pub record HasAt {A : Type 0} (xs : List A) (k : ℕ) : Type 0 where
  pub element : A
  pub is : slice_get xs k ≡ Some element

pub get_some : {A : Type 0} (xs : List A) (k : ℕ) → k < length xs → HasAt xs k
get_some [] k within = absurd (let no : ⊥ = omega (arith, within) in no)
get_some (x ∷ xs) zero within = record { element = x; is = refl }
get_some (x ∷ xs) (suc k) within =
    let rest : HasAt xs k = get_some xs k (omega (arith, within)) in
    record { element = rest.element; is = rest.is }

-- lists of one length with the same elements are the same
pub same_lists : {A : Type 0} (xs ys : List A) → length xs ≡ length ys
    → ((k : ℕ) (x : A) → slice_get xs k ≡ Some x → slice_get ys k ≡ Some x) → xs ≡ ys
same_lists [] [] many each = refl
same_lists [] (y ∷ ys) many each = absurd (let no : ⊥ = omega (arith, many) in no)
same_lists (x ∷ xs) [] many each = absurd (let no : ⊥ = omega (arith, many) in no)
same_lists (x ∷ xs) (y ∷ ys) many each =
    let first : y ≡ x = same_Some y x (each 0 x refl) in
    let rest : xs ≡ ys =
    same_lists xs ys (omega (arith, many)) (λ k z is. each (suc k) z is) in
    λ i. sym first i ∷ rest i
