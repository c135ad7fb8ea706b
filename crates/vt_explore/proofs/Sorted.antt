-- Known orders in the order of their numbers of calls.
use Rattle.std.proofs.Common.{◌≡◌, ◌⊎◌, inl, inr, ℕ, ◌+◌, ◌≤◌, zero, suc, ⊎_elim, arith, List, [], ◌∷◌, ◌++◌, length, Some, refl, sym, ap, subst}
use Rattle.std.proofs.lemmas.Option.{none-some, same_Some, slice_get_within}
use Rattle.std.specs.Prelude.{slice_get}
use Rattle.vt_explore.specs.Searches.{AreSorted}
use Rattle.session_order.specs.Ends.{Setup}
use Rattle.session_order.specs.Orders.{history_of}

-- the element at a place of two lists, one after the other
pub get_either : {A : Type 0} (xs ys : List A) (k : ℕ) (x : A) → slice_get (xs ++ ys) k ≡ Some x
    → (slice_get xs k ≡ Some x) ⊎ ((length xs ≤ k) × ((j : ℕ) × (slice_get ys j ≡ Some x)))
get_either [] ys k x is = inr (omega arith, (k, is))
get_either (y ∷ xs) ys zero x is = inl is
get_either (y ∷ xs) ys (suc k) x is =
    ⊎_elim
    (λ first. inl first)
    (λ second. inr (omega (arith, second.0), second.1))
    (get_either xs ys k x is)

-- the element of a list of one
pub get_only : {A : Type 0} (x y : A) (k : ℕ) → slice_get (x ∷ []) k ≡ Some y → x ≡ y
get_only x y zero is = same_Some x y is
get_only x y (suc k) is = absurd (none-some y is)

pub sorted_start : (o : Setup) (last : List ℕ) → slice_get ([] ∷ []) 0 ≡ Some last
    → AreSorted o ([] ∷ []) (length (history_of o last) + 1)
sorted_start o last is = record {
  rises = λ j k a b low at_a at_b.
      let first : length (history_of o a) ≡ 0 = sym (ap (λ order. length (history_of o order)) (get_only [] a j at_a)) in
      omega (arith, first);
  few = λ k a at.
      let first : length (history_of o a) ≡ 0 = sym (ap (λ order. length (history_of o order)) (get_only [] a k at)) in
      omega (arith, first);
  full = λ k a at. subst (λ order. length (history_of o order) ≡ length order) (get_only [] a k at) refl;
}

pub sorted_more : (o : Setup) (known : List (List ℕ)) (most more : ℕ) → most ≤ more → AreSorted o known most
    → AreSorted o known more
sorted_more o known most more above sorted = record {
  rises = sorted.rises;
  few = λ k a at. let low = sorted.few k a at in omega (arith, low, above);
  full = sorted.full;
}

-- a longest order at the end
pub sorted_push : (o : Setup) (known : List (List ℕ)) (order : List ℕ) (most : ℕ) → length (history_of o order) ≡ most
    → length (history_of o order) ≡ length order → AreSorted o known most → AreSorted o (known ++ order ∷ []) most
sorted_push o known order most is all sorted = record { rises = rising; few = few; full = full }
  where
    full : (k : ℕ) (a : List ℕ) → slice_get (known ++ order ∷ []) k ≡ Some a → length (history_of o a) ≡ length a
    full k a at =
        ⊎_elim
        (λ first. sorted.full k a first)
        (λ last. subst (λ made. length (history_of o made) ≡ length made) (get_only order a last.1.0 last.1.1) all)
        (get_either known (order ∷ []) k a at)

    few : (k : ℕ) (a : List ℕ) → slice_get (known ++ order ∷ []) k ≡ Some a → length (history_of o a) ≤ most
    few k a at =
        ⊎_elim
        (λ first. sorted.few k a first)
        (λ last.
        let same : length (history_of o order) ≡ length (history_of o a) =
        ap (λ made. length (history_of o made)) (get_only order a last.1.0 last.1.1) in
        omega (arith, same, is))
        (get_either known (order ∷ []) k a at)

    rising : (j k : ℕ) (a b : List ℕ) → j ≤ k → slice_get (known ++ order ∷ []) j ≡ Some a
        → slice_get (known ++ order ∷ []) k ≡ Some b → length (history_of o a) ≤ length (history_of o b)
    rising j k a b low at_a at_b =
        ⊎_elim
        (λ first. ⊎_elim
        (λ before. sorted.rises j k a b low before first)
        (λ past.
        let within = slice_get_within known k b first in
        absurd (let no : ⊥ = omega (arith, within, past.0, low) in no))
        (get_either known (order ∷ []) j a at_a))
        (λ last.
        let same : length (history_of o order) ≡ length (history_of o b) =
        ap (λ made. length (history_of o made)) (get_only order b last.1.0 last.1.1) in
        let below = few j a at_a in
        omega (arith, same, is, below))
        (get_either known (order ∷ []) k b at_b)
