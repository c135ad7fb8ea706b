-- Places that are filled one after another.
use Rattle.c_calls.specs.Places.{filled, with_items}
use Rattle.std.proofs.Common.{◌≡◌, ℕ, zero, suc, ◌<◌, ◌≤◌, List, [], ◌∷◌, ◌++◌, length, take, drop, set, refl, sym, ap, ◌∙◌, arith}
use Rattle.std.proofs.lemmas.List.{take-append-drop}

with_none : {X : Type 0} (places : List X) → with_items [] places ≡ places
with_none [] = refl
with_none (p ∷ places) = refl

-- no items leave the places
pub filled_none : {X : Type 0} (n : ℕ) (places : List X) → filled n [] places ≡ places
filled_none n places = ap (λ xs. take n places ++ xs) (with_none (drop n places)) ∙ take-append-drop n places

pub filled_first : {X : Type 0} (items places : List X) → filled 0 items places ≡ with_items items places
filled_first items places = refl

-- one more, where there is a place
pub filled_more : {X : Type 0} (n : ℕ) (x : X) (items places : List X) → n < length places
    → filled (suc n) items (set places n x) ≡ filled n (x ∷ items) places
filled_more zero x items [] room = absurd (omega (arith, room))
filled_more zero x items (p ∷ places) room = refl
filled_more (suc n) x items [] room = absurd (omega (arith, room))
filled_more (suc n) x items (p ∷ places) room =
    ap (λ xs. p ∷ xs) (filled_more n x items places (omega (arith, room)))

-- behind the last place nothing is written
pub filled_full : {X : Type 0} (n : ℕ) (items others places : List X) → length places ≤ n
    → filled n items places ≡ filled n others places
filled_full n items others [] full = none n items ∙ sym (none n others)
  where
    none : {X : Type 0} (n : ℕ) (items : List X) → filled n items [] ≡ []
    none zero items = by items
      where
        by : {X : Type 0} (items : List X) → with_items items [] ≡ []
        by [] = refl
        by (x ∷ items) = refl
    none (suc n) items = by items
      where
        by : {X : Type 0} (items : List X) → with_items items [] ≡ []
        by [] = refl
        by (x ∷ items) = refl
filled_full zero items others (p ∷ places) full = absurd (omega (arith, full))
filled_full (suc n) items others (p ∷ places) full =
    ap (λ xs. p ∷ xs) (filled_full n items others places (omega (arith, full)))
